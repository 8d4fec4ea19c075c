-- The fold tells whether the columns of each pair are the same.
use Rattle.std.proofs.Common.{◌≡◌, ◌&&◌, ℕ, Bool, true, false, List, [], ◌∷◌, ◌++◌, eqb, refl, sym, ap, ◌∙◌, rules, length, arith}
use Rattle.std.proofs.lemmas.Fn.{fold_over}
use Rattle.std.proofs.lemmas.Fn.{fronts}
use Rattle.std.proofs.lemmas.Iterator.{YieldsList-from_slice, YieldsList-from_zip, zips}
use Rattle.std.specs.List.{zip}
use Rattle.cycle.specs.Inner.Comparing.{Decides}
use Rattle.cycle.proofs.Basics.Deciding.{decides_yes, decides_by, decides_both, decides_eqb}
use Rattle.cycle.proofs.read_back.same_bucket.Goals as goal

abbrev all_same : List (ℕ × ℕ) → Bool
all_same [] = true
all_same (p ∷ ps) = eqb p.0 p.1 && all_same ps

and_more : (a b c : Bool) → (a && (b && c)) ≡ ((a && b) && c)
and_more true b c = refl
and_more false b c = refl

and_true : (b : Bool) → (b && true) ≡ b
and_true true = refl
and_true false = refl

one_more : (ps : List (ℕ × ℕ)) (p : ℕ × ℕ) → all_same (ps ++ p ∷ []) ≡ (all_same ps && eqb p.0 p.1)
one_more [] p = and_true (eqb p.0 p.1)
one_more (q ∷ ps) p = ap (λ b. eqb q.0 q.1 && b) (one_more ps p) ∙ and_more (eqb q.0 q.1) (all_same ps) (eqb p.0 p.1)

same_zip : (xs ys : List ℕ) → length xs ≡ length ys → Decides (xs ≡ ys) (all_same (zip xs ys))
same_zip [] [] e = decides_yes refl
same_zip [] (y ∷ ys) e = absurd (omega arith)
same_zip (x ∷ xs) [] e = absurd (omega arith)
same_zip (x ∷ xs) (y ∷ ys) e =
    decides_by (λ p. let h = p.0 in let t = p.1 in cc) (λ q. (cc, cc)) (decides_both (decides_eqb x y) (same_zip xs ys (omega arith)))

pub returns : goal.returns
returns c =
    let a = c.args.a.now in
    let b = c.args.b.now in
    let told : c.fold.result ≡ all_same (zip a b) =
    fold_over (zips fronts fronts) (λ p. (p.0.now, p.1.now)) _ (λ ps r. r ≡ all_same ps) _
    (λ ps s x t f' j k. (let here : t ≡ (s && eqb x.0.now x.1.now) = search rules in here ∙ ap (λ u. u && eqb x.0.now x.1.now) j ∙ sym (one_more ps (x.0.now, x.1.now)), search rules))
    c.zip.result (zip a b) true c.fold.result
    (YieldsList-from_zip (YieldsList-from_slice a cc) (YieldsList-from_slice b cc)).runs refl c.fold.ensures.ran in
    rw told (same_zip a b (omega arith))
