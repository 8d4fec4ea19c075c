-- The outcomes of reading back: which answer each finding stands for.
-- Assumes nothing.
use mathlib.Core.Path.{◌≡◌, refl, sym, ap, ◌∙◌, subst}
use Prim.Native.Nat.{ℕ, ◌+◌, ◌*◌, ◌/◌, ◌%◌, ◌≤◌, ◌<◌}
use native.Mathlib.Nat.{zero-add, mul-div_cancel, div-add-mod'}
use native.Mathlib.Omega.{arith}
use mathlib.Core.Bool.{true, false, true≢false}
use mathlib.Core.List.{List, [], ◌++◌}
use lib.Dec.{leb, eqb, lit<}
use lib.ListN.{length, drop}
use borrow.Author.Tests.{eq-eqb, ne_eqb, le-leb, lt-leb}
use Rattle.columns.specs.Lists.{joined, put, onto}
use Rattle.columns.proofs.Strict.{and_false}
use Rattle.buckets.specs.ListLine.{print_line, list_lines, blanked_list}
use Rattle.buckets.proofs.Lists.{length_printed, printed_stays}
use Rattle.cycle.specs.Tree.{layout_number, settings}
use Rattle.cycle.specs.declared.Settings.{Settings}
use Rattle.cycle.specs.Cycle.{cycle_size}
use Rattle.cycle.specs.Building.{copies_fit, settings_fit}
use Rattle.cycle.specs.ReadingBack.{whole_buckets, Outcome, handed, refused, read_back, Builds}
use Rattle.std.specs.Prelude.{Ok, Err}
use Rattle.cycle.specs.Refusals.{refusal}
use Rattle.cycle.specs.declared.Reason.TheVariants.{BufferTooShort}
use Rattle.cycle.specs.declared.Refusal.{Refusal}
use Rattle.cycle.specs.declared.Figures.{Figures}
use Rattle.cycle.specs.declared.Source.TheVariants.{Image as InImage}
use Rattle.cycle.specs.Inner.Held.{plan_of, Shaped, sized, Trees, lines_held, plan_in}
use Rattle.cycle.specs.Inner.Comparing.{Matches, counted, list_text, Holding}
use Rattle.cycle.proofs.Trees.Readiness.{sized_shaped, sized_trees}
use Rattle.cycle.proofs.Building.AcceptedLists.{size_shape}
use Rattle.cycle.proofs.ReadingBack.Matching.{matches_to}
use Rattle.cycle.proofs.ReadingBack.ImageLines.{length_held}
use Rattle.cycle.proofs.ReadingBack.ImageText.{text_list}
use Rattle.cycle.specs.Inner.Settings.{Figured}
use Rattle.cycle.proofs.ReadingBack.HeldImage.{BuiltFrom, built_lines, few_lines_lem, built_from}
use Rattle.cycle.proofs.ReadingBack.MatchingBuilt.{held_datas, restored_builds, held_accepted}
use Rattle.cycle.proofs.ReadingBack.Demand2.{every_read_back}

-- ---- conditions 1 and 11

pub shaped_fits : (f : Figures) → Shaped f → settings_fit (settings f.n f.p (layout_number f.layout) f.copies) ≡ true
unfolding settings_fit
shaped_fits f h =
    rw (
      le-leb 2 f.n h.n_low,
      le-leb f.n 8 h.n_high,
      le-leb 1 f.p h.p_low,
      le-leb f.p 8 h.p_high,
      le-leb 1 (layout_number f.layout) h.layout_low,
      le-leb (layout_number f.layout) 2 h.layout_high,
    )

module _ (c : ℕ) where
  pub buckets_whole : 1 ≤ c → c % 240 ≡ 0 → c / 240 ≤ 99999 → whole_buckets c ≡ true
  unfolding whole_buckets
  buckets_whole h g l = rw (le-leb 1 c h, eq-eqb (c % 240) 0 g, le-leb (c / 240) 99999 l)

  pub image_empty : c ≡ 0 → whole_buckets c ≡ false
  unfolding whole_buckets
  image_empty e = rw (lt-leb 1 c (omega arith))

  pub image_torn : (c % 240 ≡ 0 → ⊥) → whole_buckets c ≡ false
  unfolding whole_buckets
  image_torn f = rw (ne_eqb (c % 240) 0 f) (and_false (leb 1 c))

  pub image_long : 99999 < c / 240 → whole_buckets c ≡ false
  unfolding whole_buckets
  image_long h = rw (lt-leb (c / 240) 99999 h, and_false (eqb (c % 240) 0)) (and_false (leb 1 c))

-- ---- an answer, and the buffer behind it

-- a refusal writes nothing
pub refuses :
    (r : Refusal) (o : Outcome) (d : List ℕ) → o ≡ refused r →
    (Err r ≡ o.answer) × (d ≡ onto o.output d)
unfolding onto
refuses r o d e = (sym (ap (λ q. q.answer) e), sym (ap (λ q. onto q.output d) e))

-- ---- condition 13

module _ (s : Settings) (f : Figures) (bytes : List ℕ) (g : Figured s f) (count : f.lines ≡ counted f.p bytes) where
  found : (list : List ℕ) → Builds s list bytes → BuiltFrom f bytes list
  found list b = built_from s bytes list b f g (count ∙ (ap (λ p. counted p bytes) g.p_is ∙ built_lines s bytes list b))

  pub copies_refused : copies_fit (plan_of f []) ≡ false → (list : List ℕ) → Builds s list bytes → ⊥
  copies_refused h list b = true≢false (sym (found list b).copies_fit_lem ∙ h)

  pub size_refused : (cycle_size (plan_of f []) ≡ length bytes / 240 → ⊥) → (list : List ℕ) → Builds s list bytes → ⊥
  size_refused h list b = h (size_shape f [] (list_lines list) ∙ (found list b).size_is)

  pub cycle_refused :
      f.size ≡ cycle_size (plan_of f []) → (Matches (plan_in f InImage bytes) bytes 0 f.size → ⊥) → (list : List ℕ) → Builds s list bytes → ⊥
  cycle_refused size h list b =
      h (matches_to (size_shape f (list_lines list) [] ∙ sym size) (found list b).matches)

pub many_refused : (s : Settings) (bytes : List ℕ) → 40000 < counted s.p bytes → (list : List ℕ) → Builds s list bytes → ⊥
many_refused s bytes h list b = omega (arith, built_lines s bytes list b, few_lines_lem s bytes list b)

-- ---- condition 7, and the list

module _ (s : Settings) (f : Figures) (bytes : List ℕ) (fit : settings_fit s ≡ true) (g : Figured s f) (w : Holding f bytes)
    (same : Matches (plan_in f InImage bytes) bytes 0 f.size) where
  pub built : Builds s (joined print_line (lines_held f InImage bytes)) bytes
  built = restored_builds s f bytes fit g w.ready w.long same

  pub length_list : length (joined print_line (lines_held f InImage bytes)) ≡ 27 * f.lines
  length_list =
      let held = length_held f bytes in
      length_printed (lines_held f InImage bytes) ∙ omega (arith, held)

  pub room_refused : (room : ℕ) → room < 27 * f.lines → read_back s bytes room ≡ refused (refusal BufferTooShort 0)
  room_refused room h =
      (every_read_back s bytes room).refuses_7 (joined print_line (lines_held f InImage bytes)) built (omega (arith, length_list))

  pub list_written :
      (d out : List ℕ) → 27 * f.lines ≤ length d → out ≡ put d 0 (list_text f bytes 0 f.lines) →
      (Ok f.lines ≡ (read_back s bytes (length d)).answer) × (out ≡ onto (read_back s bytes (length d)).output d)
  unfolding put onto plan_in plan_of
  list_written d out h e =
      let list : List ℕ = joined print_line (lines_held f InImage bytes) in
      let held = length_held f bytes in
      let count : length list / 27 ≡ f.lines =
      ap (λ c. c / 27) (length_printed (lines_held f InImage bytes)) ∙ (mul-div_cancel (length (lines_held f InImage bytes)) {n = 27} (lit< tt) ∙ held) in
      let datas = held_datas f bytes w.ready same in
      let stays : blanked_list list ≡ list = printed_stays (lines_held f InImage bytes) (held_accepted f bytes w.ready datas).lines_fit in
      let all : read_back s bytes (length d) ≡ handed list =
      (every_read_back s bytes (length d)).accepts list built (omega (arith, length_list)) ∙ ap handed stays in (
        ap Ok (sym count) ∙ sym (ap (λ o. o.answer) all),
        e
            ∙ (ap (put d 0) (text_list f bytes w datas)
            ∙ (ap (λ k. list ++ drop k d) (zero-add (length list)) ∙ sym (ap (λ o. onto o.output d) all))),
      )

-- ---- figures with their size

-- what is known of figures with their size
pub record Sized (f g : Figures) : Type 0 where
  pub figured : Figured (settings f.n f.p (layout_number f.layout) f.copies) g
  pub trees : Trees g
  pub size_is : g.size ≡ cycle_size (plan_of g [])
  pub same_size : g.size ≡ cycle_size (plan_of f [])
  pub copies_same : copies_fit (plan_of g []) ≡ copies_fit (plan_of f [])
  pub lines_same : g.lines ≡ f.lines
  pub p_same : g.p ≡ f.p

pub sized_facts : (f : Figures) → Shaped f → Sized f (sized f (cycle_size (plan_of f [])))
unfolding sized plan_of copies_fit
sized_facts f h =
    record {
      figured =
          record {
            shaped = sized_shaped f (cycle_size (plan_of f [])) h;
            n_is = refl;
            p_is = refl;
            layout_is = refl;
            copies_is = refl;
          };
      trees = sized_trees f (cycle_size (plan_of f []));
      size_is = refl;
      same_size = refl;
      copies_same = refl;
      lines_same = refl;
      p_same = refl;
    }

pub with_size : (f g : Figures) → Shaped f → g ≡ sized f (cycle_size (plan_of f [])) → Sized f g
with_size f g h e = subst (Sized f) (sym e) (sized_facts f h)

pub holding :
    (f g : Figures) (bytes : List ℕ) → Shaped f → Sized f g → copies_fit (plan_of f []) ≡ true → g.size ≡ length bytes / 240 →
    length bytes % 240 ≡ 0 → length bytes / 240 ≤ 99999 → Holding g bytes
holding f g bytes h z copies size torn short =
    let all : length bytes / 240 * 240 + length bytes % 240 ≡ length bytes = div-add-mod' (length bytes) 240 in
    record {
      ready =
          record {
            shaped = z.figured.shaped;
            trees = z.trees;
            copies_fit_lem = z.copies_same ∙ copies;
            size_is = z.size_is;
            size_high = omega (arith, size);
          };
      long = omega (arith, size, all, torn);
    }
