-- Parts of an image that are parts of the cycle: the laws of `Matches t bytes x y` and of `DataMatches t bytes a b`.
-- Assumes nothing.
use mathlib.Core.Path.{◌≡◌, subst}
use mathlib.Core.Logic.{⊎_elim}
use Prim.Native.Nat.{ℕ, ◌+◌, ◌-◌, ◌≤◌, ◌<◌}
use native.Mathlib.Omega.{arith}
use mathlib.Core.List.{List}
use Rattle.cycle.specs.Tree.{Plan}
use Rattle.cycle.specs.Inner.Comparing.{MatchesAt, Matches, DataMatches}
use Rattle.cycle.proofs.Basics.Ranges.{le_or_lt}
use Rattle.cycle.proofs.Basics.RangeTests.{Each}

module _ {t : Plan} {bytes : List ℕ} where
  pub matches_none : (x : ℕ) → Matches t bytes x x
  matches_none x = record { each = λ z low high. absurd (omega arith) }

  pub matches_on : {x y z : ℕ} → Matches t bytes x y → Matches t bytes y z → Matches t bytes x z
  matches_on {x} {y} {z} a b =
      record {
        each = λ w low high. ⊎_elim (λ (l : y ≤ w). b.each w l high) (λ (l : w < y). a.each w low l) (le_or_lt y w);
      }

  pub matches_part : {x z : ℕ} (u v : ℕ) → x ≤ u → v ≤ z → Matches t bytes x z → Matches t bytes u v
  matches_part u v h g a = record { each = λ w low high. a.each w (omega arith) (omega arith) }

  pub matches_one : {x : ℕ} → MatchesAt t bytes x → Matches t bytes x (x + 1)
  matches_one {x} a =
      record { each = λ w low high. let e : x ≡ w = omega arith in subst (MatchesAt t bytes) e a }

  pub matches_at : {x z : ℕ} (y : ℕ) → x ≤ y → y < z → Matches t bytes x z → MatchesAt t bytes y
  matches_at y low high a = a.each y low high

  pub matches_to : {x y z : ℕ} → y ≡ z → Matches t bytes x y → Matches t bytes x z
  matches_to {x} e a = subst (Matches t bytes x) e a

  -- ---- a row of buckets

  module _ {first last at end : ℕ} (ends : end ≡ at + (last - first)) (rising : first ≤ last) where
    pub matches_row : Each (λ q. MatchesAt t bytes (at + (q - first))) first last → Matches t bytes at end
    matches_row e =
        record {
          each = λ z low high.
              let q : ℕ = first + (z - at) in
              let here : at + (q - first) ≡ z = omega arith in
              subst (MatchesAt t bytes) here (e.at q (omega arith) (omega arith));
        }

    pub row_matches : Matches t bytes at end → Each (λ q. MatchesAt t bytes (at + (q - first))) first last
    row_matches m = record { at = λ q low high. m.each (at + (q - first)) (omega arith) (omega arith) }

  -- ---- data buckets

  pub datas_none : DataMatches t bytes 0 0
  datas_none = record { each = λ q low high. absurd (omega arith) }

  pub datas_on : {a b c : ℕ} → DataMatches t bytes a b → DataMatches t bytes b c → DataMatches t bytes a c
  datas_on {a} {b} {c} g h =
      record {
        each = λ q low high. ⊎_elim (λ (l : b ≤ q). h.each q l high) (λ (l : q < b). g.each q low l) (le_or_lt b q);
      }

  pub datas_part : {a d : ℕ} (b c : ℕ) → a ≤ b → c ≤ d → DataMatches t bytes a d → DataMatches t bytes b c
  datas_part b c h g w = record { each = λ q low high. w.each q (omega arith) (omega arith) }

  pub datas_to : {a b c : ℕ} → b ≡ c → DataMatches t bytes a b → DataMatches t bytes a c
  datas_to {a} e w = subst (DataMatches t bytes a) e w
