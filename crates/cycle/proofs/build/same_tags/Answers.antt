-- A column that adds another digit tells the tags apart; where none does, they are the same.
use Rattle.std.proofs.Common.{◌≡◌, ℕ, List, map, length, take, drop, get_or, sym, ap, ◌∙◌, ◌+◌, ◌-◌, ◌≤◌, ◌<◌, arith}
use Rattle.std.proofs.lemmas.List.{length-map}
use Rattle.std.proofs.Math.Seq.{get_or-take, get_or-drop, ext_get_or}
use Rattle.columns.proofs.Put.{length_part}
use Rattle.columns.proofs.Joined.{map_at}
use Rattle.buckets.specs.Lengths.{tag_width}
use Rattle.cycle.proofs.Basics.Deciding.{decides_no, decides_yes}
use Rattle.cycle.proofs.build.same_tags.Goals as goal

-- the digit that column k of a tag adds
digit_at :
    (s : List ℕ) (a k : ℕ) → a + tag_width ≤ length s → k < tag_width →
    get_or (map (λ c. c - 48) (take tag_width (drop a s))) k 0 ≡ get_or s (a + k) 0 - 48
digit_at s a k within h =
    map_at (λ c. c - 48) (take tag_width (drop a s)) k 0 0 (omega (arith, length_part s a tag_width within))
    ∙ ap (λ c. c - 48) (get_or-take tag_width (drop a s) k 0 h ∙ get_or-drop a s k 0)

digits_long : (s : List ℕ) (a : ℕ) → a + tag_width ≤ length s → length (map (λ c. c - 48) (take tag_width (drop a s))) ≡ tag_width
digits_long s a within = length-map (take tag_width (drop a s)) (λ c. c - 48) ∙ length_part s a tag_width within

pub returns-then-as_digit : goal.returns-then-as_digit
returns-then-as_digit c =
    let list = c.args.list.now in
    let k : ℕ = c.loop-i.i - 1 in
    let small : k < tag_width = omega arith in
    decides_no
    (λ e.
    let told : get_or list (c.args.a + k) 0 - 48 ≡ get_or list (c.args.b + k) 0 - 48 =
    sym (digit_at list c.args.a k c.requires.0 small) ∙ ap (λ (t : List ℕ). get_or t k 0) e ∙ digit_at list c.args.b k c.requires.1 small in
    c.if-as_digit.true (omega (arith, told, c.as_digit-in-loop-i.ensures, c.as_digit.ensures)))

pub returns : goal.returns
returns c =
    let list : List ℕ = c.args.list.now in
    let a : ℕ = c.args.a in
    let b : ℕ = c.args.b in
    decides_yes
    (ext_get_or 0 (map (λ z. z - 48) (take tag_width (drop a list))) (map (λ z. z - 48) (take tag_width (drop b list)))
    (digits_long list a c.requires.0 ∙ sym (digits_long list b c.requires.1))
    (λ k h.
    let small : k < tag_width = omega (arith, digits_long list a c.requires.0) in
    digit_at list a k c.requires.0 small ∙ c.loop-i.invariant k (omega arith) small ∙ sym (digit_at list b k c.requires.1 small)))
