-- What a listener makes of a data bucket hangs on its lines' tags alone.
-- Assumes nothing.
use mathlib.Core.Path.{◌≡◌, refl, ◌∙◌, ap}
use mathlib.Core.Bool.{Bool, true, false, ◌&&◌}
use mathlib.Core.List.{List, [], ◌∷◌, map}
use Prim.Native.Nat.{ℕ, zero, suc, ◌-◌, ◌≤◌}
use native.Mathlib.Omega.{arith}
use lib.Dec.{eqb}
use lib.ListN
use lib.ListN.{length, get_or}
use Rattle.columns.specs.Lists.{pick, only, last_or}
use Rattle.buckets.specs.declared.Line.{Line}
use Rattle.buckets.specs.declared.Head.{Head}
use Rattle.buckets.specs.Bucket.{Body, data_body, cycle_length}
use Rattle.buckets.specs.Inner.Held.{bucket_with}
use Rattle.listener.specs.Listener.{before, matching, last_is, data_choice, Choice, dozes, finds, misses, choice, awaited, letter_awaited, place_awaited, decided, heed, reaches_start, due_with, passed_with, past_next_cycle, dozing}
use Rattle.listener.specs.Inner.OnReading.{tagged, tagged_lines}
use Rattle.listener.specs.declared.Phase.{Phase}
use Rattle.listener.specs.declared.Phase.TheVariants.{TuneIn, Index, Either, Data, Ended}
use Rattle.listener.specs.declared.Listener.{Listener}

-- the lines with their tags alone
unfoldable pub bare : List Line → List Line
bare ls = map tagged (map (λ l. l.tag) ls)

module _ (tag : ℕ) where
  pub before_bare : (ls : List Line) → before tag (bare ls) ≡ before tag ls
  unfolding bare tagged
  before_bare [] = refl
  before_bare (l ∷ ls) = ap (λ r. pick (eqb l.tag tag) 0 (suc r)) (before_bare ls)

  pub matching_bare : (ls : List Line) → length (matching tag (bare ls)) ≡ length (matching tag ls)
  unfolding bare tagged matching
  matching_bare [] = refl
  matching_bare (l ∷ ls) = passed (eqb l.tag tag) (matching_bare ls)
    where
      passed :
          (b : Bool) →
          length (only (λ m. eqb m.tag tag) (map tagged (map (λ m. m.tag) ls))) ≡
          length (only (λ m. eqb m.tag tag) ls) →
          length
          (pick b
          (tagged l.tag ∷ only (λ m. eqb m.tag tag) (map tagged (map (λ m. m.tag) ls)))
          (only (λ m. eqb m.tag tag) (map tagged (map (λ m. m.tag) ls)))) ≡
          length (pick b (l ∷ only (λ m. eqb m.tag tag) ls) (only (λ m. eqb m.tag tag) ls))
      passed true r = ap suc r
      passed false r = r

  pub tags_bare : (ls : List Line) → map (λ l. l.tag) (bare ls) ≡ map (λ l. l.tag) ls
  unfolding bare tagged
  tags_bare [] = refl
  tags_bare (l ∷ ls) = ap (λ r. l.tag ∷ r) (tags_bare ls)

  pub last_bare : (ls : List Line) → last_is tag (bare ls) ≡ last_is tag ls
  unfolding bare tagged
  last_bare [] = refl
  last_bare (l ∷ ls) = ap (λ r. eqb (last_or l.tag r) tag) (tags_bare ls)

  pub data_bare : (f : ℕ) (ls : List Line) → data_choice tag f (bare ls) ≡ data_choice tag f ls
  unfolding data_choice
  data_bare f ls = rw (before_bare ls, matching_bare ls, last_bare ls)

-- ---- a step on such a bucket

module _ (s : Listener) (h : Head) where
  -- what is decided hangs on a bucket's head alone
  pub decided_by_head :
      (x y : Body) (c : Choice) → decided s (bucket_with h x) c ≡ decided s (bucket_with h y) c
  unfolding bucket_with reaches_start due_with passed_with past_next_cycle dozing cycle_length
  decided_by_head x y (dozes d p i k) = refl
  decided_by_head x y (finds i k) = refl
  decided_by_head x y misses = refl

  module _ (f : ℕ) (ls : List Line) where
    awaited_bare : awaited s (bucket_with h (data_body f (bare ls))) ≡ awaited s (bucket_with h (data_body f ls))
    unfolding awaited bucket_with cycle_length
    awaited_bare = each s.phase
      where
        each :
            (p : Phase) →
            letter_awaited p (data_body f (bare ls)) && place_awaited p s (bucket_with h (data_body f (bare ls))) ≡
            letter_awaited p (data_body f ls) && place_awaited p s (bucket_with h (data_body f ls))
        each TuneIn = refl
        each Index = refl
        each Either = refl
        each Data = refl
        each Ended = refl

    choice_bare :
        (p : Phase) →
        choice p s.tag (bucket_with h (data_body f (bare ls))) ≡ choice p s.tag (bucket_with h (data_body f ls))
    unfolding bucket_with
    choice_bare TuneIn = refl
    choice_bare Index = data_bare s.tag f ls
    choice_bare Either = data_bare s.tag f ls
    choice_bare Data = data_bare s.tag f ls
    choice_bare Ended = refl

    pub heed_bare : heed s (bucket_with h (data_body f (bare ls))) ≡ heed s (bucket_with h (data_body f ls))
    unfolding heed
    heed_bare =
        rw (
          awaited_bare,
          choice_bare s.phase,
          decided_by_head (data_body f (bare ls)) (data_body f ls) (choice s.phase s.tag (bucket_with h (data_body f ls))),
        )

-- ---- counts of lines

pub matching_few : (tag : ℕ) (ls : List Line) → length (matching tag ls) ≤ length ls
unfolding matching
matching_few tag [] = omega arith
matching_few tag (l ∷ ls) = passed (eqb l.tag tag) (matching_few tag ls)
  where
    passed :
        (b : Bool) → length (only (λ m. eqb m.tag tag) ls) ≤ length ls →
        length (pick b (l ∷ only (λ m. eqb m.tag tag) ls) (only (λ m. eqb m.tag tag) ls)) ≤ suc (length ls)
    passed true r = omega arith
    passed false r = omega arith

pub last_taken : (m t : ℕ) (ts : List ℕ) → m ≤ length ts → last_or t (ListN.take m ts) ≡ get_or (t ∷ ts) m 0
last_taken zero t ts h = refl
last_taken (suc m) t [] h = absurd (omega arith)
last_taken (suc m) t (u ∷ us) h = last_taken m u us (omega arith)

-- the last of some lines
pub last_tagged :
    (tag : ℕ) (ts : List ℕ) → 1 ≤ length ts → last_is tag (tagged_lines ts) ≡ eqb (get_or ts (length ts - 1) 0) tag
unfolding tagged_lines tagged
last_tagged tag [] h = absurd (omega arith)
last_tagged tag (t ∷ ts) h =
    let e : length (t ∷ ts) - 1 ≡ length ts = omega arith in
    rw e (ap (λ x. eqb x tag) (ap (last_or t) (tags ts) ∙ last_whole t ts))
  where
    tags : (xs : List ℕ) → map (λ (l : Line). l.tag) (map tagged xs) ≡ xs
    tags [] = refl
    tags (x ∷ xs) = ap (λ r. x ∷ r) (tags xs)

    last_whole : (t : ℕ) (ts : List ℕ) → last_or t ts ≡ get_or (t ∷ ts) (length ts) 0
    last_whole t [] = refl
    last_whole t (u ∷ us) = last_whole u us
