-- That buckets stand in the cycle is a proposition: the position tells what is before them, and their number what is behind.
-- Assumes nothing.
use mathlib.Core.Path.{◌≡◌, sym, ap, ◌∙◌}
use mathlib.Core.HLevel.{is_prop→PathP}
use Rattle.std.proofs.Props.{props}
use Prim.Native.Nat.{ℕ}
use mathlib.Core.List.{List, ◌++◌, map}
use lib.ListN.{length, length-map, take, drop}
use Rattle.std.proofs.Math.Seq.{drop-append_seam, take-append_seam}
use Rattle.cycle.specs.Tree.{Plan}
use Rattle.cycle.specs.Layouts.{Slot, slots}
use Rattle.cycle.specs.Inner.Held.{bare, StandsAt}

-- two lists that are the same, with fronts of one length
module _ (a b u v : List Slot) (long : length a ≡ length b) (same : a ++ u ≡ b ++ v) where
  same_front : a ≡ b
  same_front = sym (take-append_seam a u) ∙ ap (take (length a)) same ∙ ap (λ n. take n (b ++ v)) long ∙ take-append_seam b v

  same_behind : u ≡ v
  same_behind = sym (drop-append_seam a u) ∙ ap (drop (length a)) same ∙ ap (λ n. drop n (b ++ v)) long ∙ drop-append_seam b v

pub stands_prop : {t : Plan} {x : ℕ} {xs : List Slot} → IsProp (StandsAt t x xs)
stands_prop {t} {x} {xs} a b =
    let all : a.before ++ (a.middle ++ a.behind) ≡ b.before ++ (b.middle ++ b.behind) = sym a.splits ∙ b.splits in
    let long : length a.before ≡ length b.before = a.here ∙ sym b.here in
    let wide : length a.middle ≡ length b.middle =
    sym (length-map a.middle bare) ∙ ap length (a.alike ∙ sym b.alike) ∙ length-map b.middle bare in
    let before : a.before ≡ b.before = same_front a.before b.before _ _ long all in
    let rest : a.middle ++ a.behind ≡ b.middle ++ b.behind = same_behind a.before b.before _ _ long all in
    let middle : a.middle ≡ b.middle = same_front a.middle b.middle _ _ wide rest in
    let behind : a.behind ≡ b.behind = same_behind a.middle b.middle _ _ wide rest in
    λ i.
    record {
      before = before i;
      middle = middle i;
      behind = behind i;
      splits = is_prop→PathP (λ j. slots t ≡ before j ++ (middle j ++ behind j)) (λ j. hlevel props) a.splits b.splits i;
      here = is_prop→PathP (λ j. length (before j) ≡ x) (λ j. hlevel props) a.here b.here i;
      alike = is_prop→PathP (λ j. map bare (middle j) ≡ xs) (λ j. hlevel props) a.alike b.alike i;
    }

pub ruleset held = (stands_prop, props)
