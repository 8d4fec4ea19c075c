-- Lines copied from a bucket as they stand in it, each with a newline behind it.
-- Assumes nothing.
use mathlib.Core.Path.{◌≡◌, refl}
use Rattle.std.specs.Prelude.{Option, None, Some}
use mathlib.Core.List.{List, [], ◌∷◌, ◌++◌, append_assoc}
use Prim.Native.Nat.{ℕ, ◌+◌, ◌-◌, ◌*◌, ◌≤◌}
use native.Mathlib.Omega.{arith}
use lib.ListN
use lib.ListN.{length, drop, replicate}
use Rattle.columns.specs.Lists.{joined, padded}
use Rattle.buckets.specs.declared.Line.{Line}
use Rattle.buckets.specs.Lengths.{newline, line_columns_width, lines_start, lines_width}
use Rattle.buckets.specs.ListLine.{line_columns, print_line, ended_lines}
use Rattle.buckets.specs.Bucket.{Body, index_body, data_body, Bucket, print_head, print_bucket, read_bucket}
use Rattle.buckets.specs.BucketLines.{body_lines, lines_read}
use Rattle.buckets.proofs.Buckets.{length_print_head, print_of_read_bucket}
use Rattle.buckets.proofs.CopiedLines.{ended_columns}
use Rattle.listener.specs.Listener.{step, named}
use Rattle.listener.specs.declared.Listener.{Listener}
use Rattle.listener.proofs.Steps.StepBounds.{within_step}

no_lines : (k : ℕ) (y : List ℕ) (ls : List Line) → k ≡ 0 → ended_lines k y ≡ joined print_line (ListN.take k ls)
unfolding ended_lines
no_lines k y ls e = rw e refl

module _ (f k : ℕ) where
  of_body :
      (p c g : ℕ) (x : Body) → f + k ≤ length (body_lines x) →
      ended_lines k (drop (lines_start + line_columns_width * f) (print_bucket (record { position = p; to_cycle = c; to_segment = g; body = x }))) ≡
      joined print_line (ListN.take k (drop f (body_lines x)))
  unfolding print_bucket padded
  of_body p c g (index_body ps es) h =
      no_lines k
      (drop (lines_start + line_columns_width * f) (print_bucket (record { position = p; to_cycle = c; to_segment = g; body = index_body ps es })))
      (drop f [])
      (omega arith)
  of_body p c g (data_body o ls) h =
      let b : Bucket = record { position = p; to_cycle = c; to_segment = g; body = data_body o ls } in
      let blank : List ℕ = replicate (lines_width - length (joined line_columns ls)) 32 in
      rw (append_assoc (joined line_columns ls) blank (newline ∷ []))
      (ended_columns lines_start (print_head b) ls (blank ++ newline ∷ []) f k (length_print_head b) h)

  ended_read :
      (bytes : List ℕ) (o : Option Bucket) → read_bucket bytes ≡ o → f + k ≤ length (lines_read o) →
      ended_lines k (drop (lines_start + line_columns_width * f) bytes) ≡ joined print_line (ListN.take k (drop f (lines_read o)))
  ended_read bytes None e h = no_lines k (drop (lines_start + line_columns_width * f) bytes) (drop f []) (omega arith)
  ended_read bytes (Some b) e h =
      rw (print_of_read_bucket bytes e).0 (of_body b.position b.to_cycle b.to_segment b.body h)

-- the lines that a step names stand from the first column of lines on, side by side
pub named_stand :
    (s : Listener) (bytes : List ℕ) →
    ended_lines (step s bytes).count (drop (lines_start + line_columns_width * (step s bytes).first) bytes) ≡
    joined print_line (named bytes (step s bytes))
unfolding named
named_stand s bytes =
    ended_read (step s bytes).first (step s bytes).count bytes (read_bucket bytes) refl (within_step s bytes).lines
