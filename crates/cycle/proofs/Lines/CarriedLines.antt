-- The lines that the buckets of a cycle carry, one behind the other, are the lines of its plan.
-- Assumes nothing.
use mathlib.Core.Path.{◌≡◌, refl, sym, ap, ap₂, ◌∙◌}
use Prim.Native.Nat.{ℕ, zero, suc, ◌+◌, ◌-◌, ◌*◌, ◌≤◌}
use native.Mathlib.Nat.{zero-mul, suc-mul}
use native.Mathlib.Omega.{arith}
use mathlib.Core.Bool.{Bool, true, false}
use Rattle.std.specs.Prelude.{Option, None}
use mathlib.Core.List.{List, [], ◌∷◌, ◌++◌, append_assoc}
use lib.ListN.{length, drop}
use lib.ListN
use lib.Seq.{take_all, take-add, drop-drop}
use Rattle.columns.specs.Lists.{pick, joined, span}
use Rattle.buckets.specs.declared.Line.{Line}
use Rattle.buckets.specs.declared.Pair.{Pair}
use Rattle.buckets.specs.declared.Entry.{Entry}
use Rattle.buckets.specs.Bucket.{index_body, data_body}
use Rattle.buckets.specs.BucketLines.{body_lines}
use Rattle.cycle.specs.Tree.{Plan, lines_of, last_tag}
use Rattle.cycle.specs.Layouts.{Slot, slots}
use Rattle.cycle.specs.Cycle.{is_data, pairs, entries, follow_on_from, body_of, bucket_of, last_sent, buckets_from, buckets, carried}
use Rattle.cycle.proofs.Sequences.Sequence.{data_count, Keeps}
use Rattle.cycle.proofs.Sequences.Pieces.{count_append}

-- the lines that a bucket carries, as sent
abbrev pub carried_by : Plan → Slot → List Line
carried_by t x = pick (is_data t x) (lines_of t x.place) []

pub carried_of :
    (t : Plan) (size position : ℕ) (last : Option ℕ) (x : Slot) (rest : List Slot) →
    carried (bucket_of t size position last x rest) ≡ carried_by t x
unfolding bucket_of body_of
carried_of t size position last x rest =
    by (is_data t x) (follow_on_from t (last_tag t x.place) 1 rest) (lines_of t x.place)
    (pairs t rest last (size - position) x) (entries t rest x)
  where
    by :
        (b : Bool) (f : ℕ) (ls : List Line) (ps : List Pair) (es : List Entry) →
        body_lines (pick b (data_body f ls) (index_body ps es)) ≡ pick b ls []
    by true f ls ps es = refl
    by false f ls ps es = refl

pub carried_from :
    (t : Plan) (size position : ℕ) (last : Option ℕ) (xs : List Slot) →
    joined carried (buckets_from t size position last xs) ≡ joined (carried_by t) xs
carried_from t size position last [] = refl
carried_from t size position last (x ∷ xs) =
    ap₂ {C = List Line} ◌++◌ (carried_of t size position last x xs) (carried_from t size (suc position) (last_sent t x last) xs)

-- data buckets are sent in order
pub carried_in_order :
    (t : Plan) → Keeps t → (done xs : List Slot) → slots t ≡ done ++ xs →
    joined (carried_by t) xs ≡ joined (lines_of t) (span (data_count t done) (data_count t xs))
carried_in_order t keeps done [] e = refl
carried_in_order t keeps done (x ∷ xs) e =
    by (is_data t x) refl
    (carried_in_order t keeps (done ++ (x ∷ [])) xs (e ∙ sym (append_assoc done (x ∷ []) xs)))
  where
    by :
        (b : Bool) → is_data t x ≡ b →
        joined (carried_by t) xs ≡ joined (lines_of t) (span (data_count t (done ++ (x ∷ []))) (data_count t xs)) →
        pick (is_data t x) (lines_of t x.place) [] ++ joined (carried_by t) xs ≡
        joined (lines_of t) (span (data_count t done) (pick (is_data t x) 1 0 + data_count t xs))
    by true d rest =
        let c : data_count t (done ++ (x ∷ [])) ≡ suc (data_count t done) = count_append t done (x ∷ []) ∙ rw d (omega arith) in
        let n : 1 + data_count t xs ≡ suc (data_count t xs) = omega arith in
        let here : x.place ≡ data_count t done = keeps.in_order done x xs e d in
        let more : joined (carried_by t) xs ≡ joined (lines_of t) (span (suc (data_count t done)) (data_count t xs)) = rw c at rest in
        rw (d, n, here) (ap (λ ls. lines_of t (data_count t done) ++ ls) more)
    by false d rest =
        let c : data_count t (done ++ (x ∷ [])) ≡ data_count t done = count_append t done (x ∷ []) ∙ rw d (omega arith) in
        let n : 0 + data_count t xs ≡ data_count t xs = omega arith in
        rw (d, n) (rw c at rest)

-- parts of p, one behind the other
pub chunks : {A : Type 0} (p a c : ℕ) (ls : List A) → joined (λ q. ListN.take p (drop (q * p) ls)) (span a c) ≡ ListN.take (c * p) (drop (a * p) ls)
chunks p a zero ls = rw zero-mul
chunks p a (suc c) ls =
    let on : suc c * p ≡ p + c * p = rw suc-mul (omega arith) in
    let next : suc a * p ≡ p + a * p = rw suc-mul (omega arith) in
    let swap : p + a * p ≡ a * p + p = omega arith in
    rw (on, take-add p (c * p) (drop (a * p) ls), drop-drop p (a * p) ls)
    (ap (λ r. ListN.take p (drop (a * p) ls) ++ r) (chunks p (suc a) c ls ∙ ap (λ m. ListN.take (c * p) (drop m ls)) (next ∙ swap)))

pub lines_joined : (t : Plan) → length t.lines ≤ t.d * t.p → joined (lines_of t) (span 0 t.d) ≡ t.lines
unfolding lines_of
lines_joined t h = chunks t.p 0 t.d t.lines ∙ rw zero-mul (take_all (t.d * t.p) t.lines h)

pub lines_sent : (t : Plan) → Keeps t → length t.lines ≤ t.d * t.p → joined carried (buckets t) ≡ t.lines
unfolding buckets
lines_sent t keeps h =
    carried_from t (length (slots t)) 0 None (slots t)
    ∙ carried_in_order t keeps [] (slots t) refl
    ∙ ap (λ c. joined (lines_of t) (span 0 c)) keeps.all_sent
    ∙ lines_joined t h
