-- Demand 2 of reading back: an image is accepted exactly if some list and the settings build it and there is room for that list,
-- and that list is handed out, with its leading zeros made blank.
-- Assumes nothing.
use mathlib.Core.Path.{◌≡◌, refl, sym, ap, ◌∙◌, subst}
use Prim.Native.Nat.{ℕ, ◌*◌, ◌/◌, ◌%◌, ◌≤◌, ◌<◌}
use native.Mathlib.Nat.{mul_comm, mul-div_cancel, mul-mod_left}
use native.Mathlib.Omega.{arith}
use mathlib.Core.Bool.{Bool, true, false, not, true≢false}
use mathlib.Core.List.{List, [], ◌∷◌}
use lib.Dec.{lit<, ltb}
use lib.ListN.{length}
use borrow.Author.Tests.{lt-ltb, le-ltb, ltb-true, ltb-false, le-leb, eq-eqb}
use Rattle.columns.specs.Lists.{same}
use Rattle.columns.proofs.Strict.{both, same_refl, same_eq}
use Rattle.buckets.specs.ListLine.{list_lines, blanked_list}
use Rattle.buckets.proofs.BlankedLists.{length_blanked_list}
use Rattle.std.specs.Prelude.{Result, Ok, Err}
use Rattle.cycle.specs.Refusals.{number, refusal, row, first_refusal}
use Rattle.cycle.specs.Tree.{Plan, plan}
use Rattle.cycle.specs.declared.Settings.{Settings}
use Rattle.cycle.specs.Layouts.{slots}
use Rattle.cycle.specs.Cycle.{cycle_size}
use Rattle.cycle.specs.Building.{settings_fit, build}
use Rattle.cycle.specs.ReadingBack.{sent_list, is_cycle, builds, whole_buckets, conditions, Outcome, handed, refused, outcome, read_back, Builds, NoneBuilds, BuildsOver, EveryReadBack}
use Rattle.cycle.specs.declared.Reason.{Reason}
use Rattle.cycle.specs.declared.Refusal.{Refusal}
use Rattle.cycle.specs.declared.Reason.TheVariants.{SettingsOut, BufferTooShort, ImageLengthOut, NoListBuilds}
use Rattle.cycle.proofs.Building.Accepted.{Accepted, laid}
use Rattle.cycle.proofs.Building.Outcomes.{answered, accepted}
use Rattle.cycle.proofs.Building.BuiltImage.{length_image}
use Rattle.cycle.proofs.Building.BlankedBuilt.{blanked_builds}
use Rattle.cycle.proofs.ReadingBack.BuildsUnique.{sent_list_lem}

-- ---- the test is the relation

-- an answer with a cycle
record OfCycle (b : Result ℕ Refusal) : Type 0 where
  n : ℕ
  is : b ≡ Ok n

of_cycle : (b : Result ℕ Refusal) → is_cycle b ≡ true → OfCycle b
of_cycle (Ok n) h = record { n = n; is = refl }
of_cycle (Err r) h = absurd (true≢false (sym h))

module _ (s : Settings) (list bytes : List ℕ) where
  pub builds_true : Builds s list bytes → builds s list bytes ≡ true
  unfolding builds
  builds_true g = rw (g.answers, g.writes) (same_refl bytes)

  -- the image's length is that of its buckets
  pub cycle_long :
      (n : ℕ) → (build s list (length bytes)).answer ≡ Ok n → (build s list (length bytes)).output ≡ bytes →
      length bytes ≡ 240 * n
  cycle_long n h w =
      let o = answered s list (length bytes) n h in
      ap length (sym w ∙ o.output_is)
      ∙ (length_image (plan s (list_lines list)) (accepted s list (length bytes) n h) o.short
      ∙ ap (λ c. 240 * c) (sym o.size_is))

  pub true_builds : builds s list bytes ≡ true → Builds s list bytes
  unfolding builds
  true_builds h =
      let told = both (is_cycle (build s list (length bytes)).answer) (same (build s list (length bytes)).output bytes) h in
      let c = of_cycle (build s list (length bytes)).answer told.0 in
      let w : (build s list (length bytes)).output ≡ bytes = same_eq (build s list (length bytes)).output bytes told.1 in
      let n_is : length bytes / 240 ≡ c.n =
      ap (λ k. k / 240) (cycle_long c.n c.is w ∙ mul_comm 240 c.n) ∙ mul-div_cancel c.n {n = 240} (lit< tt) in
      record { answers = c.is ∙ ap Ok (sym n_is); writes = w }

  -- settings and length of an image that a list builds
  pub built_settings : Builds s list bytes → settings_fit s ≡ true
  built_settings g = (answered s list (length bytes) (length bytes / 240) g.answers).settings

  pub built_whole : Builds s list bytes → whole_buckets (length bytes) ≡ true
  unfolding whole_buckets plan cycle_size
  built_whole g =
      let n : ℕ = length bytes / 240 in
      let t : Plan = plan s (list_lines list) in
      let o = answered s list (length bytes) n g.answers in
      let a : Accepted t = accepted s list (length bytes) n g.answers in
      let long : length bytes ≡ 240 * n = cycle_long n g.answers g.writes in
      let some_there : 1 ≤ length (slots t) = rw (laid t a).keeps.root_first (omega arith) in
      let left : length bytes % 240 ≡ 0 = ap (λ k. k % 240) (long ∙ mul_comm 240 n) ∙ mul-mod_left n 240 in
      rw (
        le-leb 1 (length bytes) (omega (arith, o.size_is)),
        eq-eqb (length bytes % 240) 0 left,
        le-leb n 99999 (omega (arith, o.size_is, o.short)),
      )

-- ---- the conditions, one by one

module _ (s : Settings) (bytes : List ℕ) (room : ℕ) where
  -- what is answered by these tests: settings and length fit, the list held builds the image, and it is longer than the room
  abbrev told : Bool → Bool → Bool → Bool → Outcome
  told fit whole built over =
      outcome (first_refusal (row SettingsOut (not fit) ∷ row ImageLengthOut (not whole) ∷ row NoListBuilds (not built) ∷ row BufferTooShort over ∷ [])) (sent_list bytes)

  -- these tests
  abbrev whole_is : Bool
  whole_is = whole_buckets (length bytes)

  abbrev built_is : Bool
  built_is = builds s (sent_list bytes) bytes

  abbrev over_is : Bool
  over_is = ltb room (length (sent_list bytes))

  read_told : read_back s bytes room ≡ told (settings_fit s) whole_is built_is over_is
  unfolding read_back conditions
  read_told = refl

  -- what an answer shows of the tests
  record Shown (fit whole built over wanted excess : Bool) : Type 0 where
    fits : fit ≡ true
    is_whole : whole ≡ true
    is_built : built ≡ wanted
    is_over : wanted ≡ true → over ≡ excess

  -- an answer's number, 0 without a refusal
  abbrev number_of : Result ℕ Refusal → ℕ
  number_of (Ok c) = 0
  number_of (Err r) = number r.reason

  other_reason : {x y : Reason} {place there : ℕ} {A : Type 0} → (number x ≡ number y → ⊥) → ◌≡◌ {A = Result ℕ Refusal} (Err (refusal x place)) (Err (refusal y there)) → A
  other_reason f h = absurd (f (ap number_of h))

  no_refusal : {r : Refusal} {c : ℕ} {A : Type 0} → Err r ≡ Ok c → A
  no_refusal h = let z : ◌≡◌ {A = ℕ} 0 1 = cc in absurd (omega arith)

  no_lines : {r : Refusal} {c : ℕ} {A : Type 0} → Ok c ≡ Err r → A
  no_lines h = let z : ◌≡◌ {A = ℕ} 0 1 = cc in absurd (omega arith)

  shown_lines :
      (fit whole built over : Bool) (c : ℕ) → (told fit whole built over).answer ≡ Ok c → Shown fit whole built over true false
  shown_lines false whole built over c h = no_refusal h
  shown_lines true false built over c h = no_refusal h
  shown_lines true true false over c h = no_refusal h
  shown_lines true true true true c h = no_refusal h
  shown_lines true true true false c h = record { fits = refl; is_whole = refl; is_built = refl; is_over = λ e. refl }

  shown_13 :
      (fit whole built over : Bool) (place : ℕ) → (told fit whole built over).answer ≡ Err (refusal NoListBuilds place) →
      Shown fit whole built over false false
  shown_13 false whole built over place h = other_reason (λ e. omega arith) h
  shown_13 true false built over place h = other_reason (λ e. omega arith) h
  shown_13 true true true true place h = other_reason (λ e. omega arith) h
  shown_13 true true true false place h = no_lines h
  shown_13 true true false over place h =
      record { fits = refl; is_whole = refl; is_built = refl; is_over = λ e. absurd (true≢false (sym e)) }

  shown_7 :
      (fit whole built over : Bool) (place : ℕ) → (told fit whole built over).answer ≡ Err (refusal BufferTooShort place) →
      Shown fit whole built over true true
  shown_7 false whole built over place h = other_reason (λ e. omega arith) h
  shown_7 true false built over place h = other_reason (λ e. omega arith) h
  shown_7 true true false over place h = other_reason (λ e. omega arith) h
  shown_7 true true true false place h = no_lines h
  shown_7 true true true true place h = record { fits = refl; is_whole = refl; is_built = refl; is_over = λ e. refl }

  -- ---- 1 and 11

  pub refuses_1 : settings_fit s ≡ false → read_back s bytes room ≡ refused (refusal SettingsOut 0)
  refuses_1 e = read_told ∙ rw e

  pub refuses_11 : settings_fit s ≡ true → whole_buckets (length bytes) ≡ false → read_back s bytes room ≡ refused (refusal ImageLengthOut 0)
  refuses_11 e w = read_told ∙ rw (e, w)

  -- ---- where a list builds the image

  module _ (list : List ℕ) (g : Builds s list bytes) where
    held : sent_list bytes ≡ blanked_list list
    held = sent_list_lem s list bytes g

    long_held : length (sent_list bytes) ≡ length list
    long_held = ap length held ∙ length_blanked_list list

    by_room : read_back s bytes room ≡ told true true true (ltb room (length (sent_list bytes)))
    by_room =
        let built : builds s (sent_list bytes) bytes ≡ true = ap (λ l. builds s l bytes) held ∙ builds_true s (blanked_list list) bytes (blanked_builds s list bytes g) in
        read_told ∙ rw (built_settings s list bytes g, built_whole s list bytes g, built)

    hands_out : length list ≤ room → read_back s bytes room ≡ handed (blanked_list list)
    hands_out h = by_room ∙ (rw (le-ltb room (length (sent_list bytes)) (rw long_held h)) (ap handed held))

    too_short : room < length list → read_back s bytes room ≡ refused (refusal BufferTooShort 0)
    too_short h = by_room ∙ rw (lt-ltb room (length (sent_list bytes)) (rw long_held h))

  -- ---- where none does

  none_held : NoneBuilds s bytes → builds s (sent_list bytes) bytes ≡ false
  none_held f = by (builds s (sent_list bytes) bytes) refl
    where
      by : (b : Bool) → builds s (sent_list bytes) bytes ≡ b → b ≡ false
      by true e = absurd (f (sent_list bytes) (true_builds s (sent_list bytes) bytes e))
      by false e = refl

  turns_down :
      settings_fit s ≡ true → whole_buckets (length bytes) ≡ true → NoneBuilds s bytes → read_back s bytes room ≡ refused (refusal NoListBuilds 0)
  turns_down e w f = read_told ∙ rw (e, w, none_held f)

  -- ---- what an answer tells

  module _ (c : ℕ) (h : (read_back s bytes room).answer ≡ Ok c) where
    lines_shown : Shown (settings_fit s) whole_is built_is over_is true false
    lines_shown = shown_lines (settings_fit s) whole_is built_is over_is c (sym (ap (λ o. o.answer) read_told) ∙ h)

    held_builds : Builds s (sent_list bytes) bytes
    held_builds = true_builds s (sent_list bytes) bytes lines_shown.is_built

    held_fits : length (sent_list bytes) ≤ room
    held_fits = ltb-false room (length (sent_list bytes)) (lines_shown.is_over refl)

    held_out : read_back s bytes room ≡ handed (sent_list bytes)
    held_out = hands_out (sent_list bytes) held_builds held_fits ∙ ap handed (sym (sent_list_lem s (sent_list bytes) bytes held_builds))

    pub accepted_built : Builds s (read_back s bytes room).output bytes
    accepted_built = subst (λ o. Builds s o.output bytes) (sym held_out) held_builds

    pub accepted_fits : length (read_back s bytes room).output ≤ room
    accepted_fits = subst (λ o. length o.output ≤ room) (sym held_out) held_fits

    pub accepted_count : c ≡ length (read_back s bytes room).output / 27
    accepted_count =
        let answer : ◌≡◌ {A = Result ℕ Refusal} (Ok c) (Ok (length (sent_list bytes) / 27)) = sym h ∙ ap (λ o. o.answer) held_out in
        let e : c ≡ length (sent_list bytes) / 27 = cc in
        e ∙ ap (λ o. length o.output / 27) (sym held_out)

  none_list :
      (place : ℕ) → (read_back s bytes room).answer ≡ Err (refusal NoListBuilds place) →
      (settings_fit s ≡ true) × (whole_buckets (length bytes) ≡ true) × NoneBuilds s bytes
  none_list place h =
      let w = shown_13 (settings_fit s) whole_is built_is over_is place (sym (ap (λ o. o.answer) read_told) ∙ h) in (
        w.fits,
        w.is_whole,
        λ list g.
            true≢false
            (sym (builds_true s (blanked_list list) bytes (blanked_builds s list bytes g))
            ∙ (sym (ap (λ l. builds s l bytes) (sent_list_lem s list bytes g)) ∙ w.is_built)),
      )

  over_list : (place : ℕ) → (read_back s bytes room).answer ≡ Err (refusal BufferTooShort place) → BuildsOver s bytes room
  over_list place h =
      let w = shown_7 (settings_fit s) whole_is built_is over_is place (sym (ap (λ o. o.answer) read_told) ∙ h) in
      record {
        list = sent_list bytes;
        built = true_builds s (sent_list bytes) bytes w.is_built;
        over = ltb-true room (length (sent_list bytes)) (w.is_over refl);
      }

pub every_read_back : EveryReadBack
every_read_back s bytes room =
    record {
      accepts = hands_out s bytes room;
      accepted_built = accepted_built s bytes room;
      accepted_fits = accepted_fits s bytes room;
      accepted_count = accepted_count s bytes room;
      refuses_13 = turns_down s bytes room;
      refused_13 = none_list s bytes room;
      refuses_7 = too_short s bytes room;
      refused_7 = over_list s bytes room;
    }
