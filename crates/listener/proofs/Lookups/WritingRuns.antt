-- A run that writes what it gets: the lines got so far stand at the front of the buffer.
-- Assumes nothing.
use mathlib.Core.Path.{◌≡◌, refl, sym, ◌∙◌, ap}
use mathlib.Core.List.{List, [], ◌++◌}
use Prim.Native.Nat.{ℕ, ◌+◌, ◌*◌, ◌≤◌}
use native.Mathlib.Omega.{arith}
use lib.ListN.{length}
use Rattle.columns.specs.Lists.{joined, put}
use Rattle.columns.proofs.Joined.{joined_append, length_joined}
use Rattle.columns.proofs.Put.{put_nil, put_put}
use Rattle.buckets.specs.Lengths.{line_length}
use Rattle.buckets.specs.ListLine.{print_line}
use Rattle.buckets.proofs.ListLines.{length_print_line}
use Rattle.listener.specs.Listener.{named}
use Rattle.cycle.specs.Cycle.{bucket_at}
use Rattle.listener.specs.Lookup.{Finish, run_budget, run, got_by}
use Rattle.listener.specs.Inner.OnRun.{WasHeard, heard_next, run_on, FoundWithin, lines_in}
use Rattle.listener.specs.declared.Answer.{Answer}
use Rattle.listener.specs.declared.Answer.TheVariants.{Doze, Found, Absent, Refused}
use Rattle.listener.specs.declared.hearing.Heard.{Heard}
use Rattle.listener.proofs.Lookups.CopiedLines.{named_stand}
use Rattle.listener.proofs.Lookups.Runs.{listener_at, SoFar, at_heard, got_with, counted_with, after_step, onward, longer_after, longer}

-- the lines got so far are written to the front of out, which was out₀
pub record Written (image : List ℕ) (count : ℕ) (goal : Finish) (out₀ out : List ℕ) (h : Heard) (lines : ℕ) : Type 0 where
  pub so_far : SoFar image count goal h lines
  pub kept : length out ≡ length out₀
  pub wrote : out ≡ put out₀ 0 (joined print_line so_far.got)

pub nothing_written :
    (image : List ℕ) (count : ℕ) {h : Heard} (out : List ℕ) → WasHeard image count h →
    Written image count (run_on image count h []) out out h 0
unfolding at_heard
nothing_written image count out w =
    record { so_far = at_heard image count w; kept = refl; wrote = sym (put_nil out 0) }

-- what is written behind the front of a buffer
put_behind_front :
    (d a b : List ℕ) {o e : List ℕ} {k : ℕ} → o ≡ put d 0 a → e ≡ b → length a ≤ length d → k ≡ length a →
    put o k e ≡ put d 0 (a ++ b)
put_behind_front d a b {o} {e} {k} p q h l = rw (p, q) (put_put d 0 a k b (omega arith) (omega arith))

-- such a run, which finds lines that there is room for
pub record Writing (image : List ℕ) (count : ℕ) (goal : Finish) (out₀ out : List ℕ) (h : Heard) (lines : ℕ) : Type 0 where
  pub written : Written image count goal out₀ out h lines
  pub finds : FoundWithin goal (length out₀)

module _ {image : List ℕ} {count : ℕ} {goal : Finish} {out₀ out : List ℕ} {h : Heard} {lines : ℕ}
    (t : Writing image count goal out₀ out h lines) where
  -- there is room for the lines of this bucket
  pub room_with : line_length * (lines + h.step.count) ≤ length out
  room_with =
      let f = t.written.so_far in
      let ls = t.finds.got in
      let k : length (got_with f) ≤ length ls =
      longer_after image count t.finds.listener ls (run image count run_budget)
      (longer image count t.finds.listener ls run_budget) h.x (got_with f) h.step.listener h.step.answer
      (sym (after_step f refl) ∙ t.finds.is) in
      omega (arith, counted_with f, t.finds.fits, t.written.kept)

  -- with them, the lines got stand at the front
  pub wrote_with :
      {out' : List ℕ} →
      out' ≡ put out (line_length * lines) (lines_in image h.x h.step.first h.step.count) →
      out' ≡ put out₀ 0 (joined print_line (got_with t.written.so_far))
  unfolding got_with
  wrote_with k =
      let f = t.written.so_far in
      let bytes = bucket_at image h.x in
      let new = named bytes h.step in
      let stand : lines_in image h.x h.step.first h.step.count ≡ joined print_line new =
      rw f.heard.is (named_stand (listener_at f.heard) bytes) in
      let wide : length (joined print_line f.got) ≡ length f.got * line_length =
      length_joined print_line line_length length_print_line f.got in
      k ∙
      (put_behind_front out₀ (joined print_line f.got) (joined print_line new) t.written.wrote stand
      (omega (arith, room_with, t.written.kept, f.counted))
      (omega (arith, f.counted)) ∙
      ap (put out₀ 0) (sym (joined_append print_line f.got new)))

  pub written_onward :
      {out' : List ℕ} {h' : Heard} (d : ℕ) → h.step.answer ≡ Doze d → h' ≡ heard_next image count h d → length out' ≡ length out →
      out' ≡ put out (line_length * lines) (lines_in image h.x h.step.first h.step.count) →
      Written image count goal out₀ out' h' (lines + h.step.count)
  unfolding onward
  written_onward d a next l k =
      rw next
      (record { so_far = onward t.written.so_far d a; kept = l ∙ t.written.kept; wrote = wrote_with k })

  -- where the run does not doze on, it finds, and all its lines stand at the front
  pub wrote_at_end :
      {out' : List ℕ} → ((d : ℕ) → h.step.answer ≡ Doze d → ⊥) →
      out' ≡ put out (line_length * lines) (lines_in image h.x h.step.first h.step.count) →
      out' ≡ put out₀ 0 (joined print_line (got_by goal))
  wrote_at_end awake k =
      wrote_with k ∙ ap (λ got. put out₀ 0 (joined print_line got)) (sym (all_got h.step.answer refl))
    where
      all_got : (a : Answer) → h.step.answer ≡ a → got_by goal ≡ got_with t.written.so_far
      all_got (Doze d) e = absurd (awake d e)
      all_got Found e = ap got_by (after_step t.written.so_far e)
      all_got Absent e =
          let a = after_step t.written.so_far e in
          let f = t.finds.is in
          let z : ◌≡◌ {A = ℕ} 0 1 = cc in
          absurd (omega arith)
      all_got (Refused number) e =
          let a = after_step t.written.so_far e in
          let f = t.finds.is in
          let z : ◌≡◌ {A = ℕ} 0 1 = cc in
          absurd (omega arith)
