-- A list that builds an image is, with its leading zeros made blank, the one that the image's data buckets hold: so two lists that
-- build one image differ in leading zeros alone.
-- Assumes nothing.
use mathlib.Core.Path.{◌≡◌, refl, sym, ap, ap₂, ◌∙◌}
use Prim.Native.Nat.{ℕ, ◌*◌, ◌/◌, ◌≤◌}
use native.Mathlib.Nat.{mul_comm, mul-div_cancel}
use mathlib.Core.Bool.{true}
use mathlib.Core.List.{List, [], ◌∷◌, ◌++◌, map, append-nil}
use lib.Dec.{lit<}
use lib.ListN.{length}
use Rattle.columns.specs.Lists.{joined, every, parts, up}
use Rattle.columns.proofs.Strict.{both}
use Rattle.columns.proofs.Joined.{parts_joined_if}
use Rattle.buckets.specs.declared.Line.{Line}
use Rattle.buckets.specs.Bucket.{Bucket, print_bucket, good, read_bucket}
use Rattle.buckets.specs.ListLine.{list_lines, print_line, blanked_list}
use Rattle.buckets.proofs.Buckets.{length_print_bucket, read_of_print_bucket}
use Rattle.buckets.specs.BucketLines.{lines_read}
use Rattle.cycle.specs.Tree.{Plan, plan}
use Rattle.cycle.specs.declared.Settings.{Settings}
use Rattle.cycle.specs.Cycle.{buckets, cycle_size, image, carried}
use Rattle.cycle.specs.ReadingBack.{sent_lines, sent_list, Builds}
use Rattle.cycle.proofs.Trees.TreeLaws.{up_covers}
use Rattle.cycle.proofs.Segmenting.Positions.{length_buckets}
use Rattle.cycle.proofs.Building.Accepted.{Accepted, laid}
use Rattle.cycle.proofs.Building.Outcomes.{answered, accepted, accepted_list}
use Rattle.cycle.proofs.Building.BuiltImage.{all_good, length_image}
use Rattle.cycle.proofs.Lines.CarriedLines.{lines_sent}

-- the lines of an accepted plan are those that its buckets carry
pub accepted_sent : (t : Plan) → Accepted t → joined carried (buckets t) ≡ t.lines
accepted_sent t a =
    let c : length t.lines ≤ up (length t.lines) t.p * t.p = up_covers (length t.lines) t.p a.sound.full in
    lines_sent t (laid t a).keeps (rw a.d_is c)

-- what is read of well printed buckets is what they carry
read_carried :
    (bs : List Bucket) → every good bs ≡ true →
    joined (λ bytes. lines_read (read_bucket bytes)) (map print_bucket bs) ≡ joined carried bs
read_carried [] h = refl
read_carried (b ∷ bs) h =
    let told = both (good b) (every good bs) h in
    ap₂ {C = List Line} ◌++◌ (ap lines_read (read_of_print_bucket b told.0)) (read_carried bs told.1)

-- the image of an accepted plan holds its lines
pub sent_lines_lem : (t : Plan) → Accepted t → cycle_size t ≤ 99999 → sent_lines (image t) ≡ t.lines
unfolding sent_lines image
sent_lines_lem t a short =
    let bs : List Bucket = buckets t in
    let fine : every good bs ≡ true = all_good t a short in
    let count : length (joined print_bucket bs) / 240 ≡ length bs =
    ap (λ c. c / 240) (length_image t a short ∙ mul_comm 240 (cycle_size t))
    ∙ (mul-div_cancel (cycle_size t) {n = 240} (lit< tt) ∙ sym (length_buckets t)) in
    let cut : parts (length bs) 240 (joined print_bucket bs) ≡ map print_bucket bs =
    ap (parts (length bs) 240) (sym (append-nil (joined print_bucket bs)))
    ∙ parts_joined_if print_bucket good 240 length_print_bucket bs [] fine in
    rw (count, cut) (read_carried bs fine ∙ accepted_sent t a)

-- a list that builds an image is, with its leading zeros made blank, the one that it holds
pub sent_list_lem : (s : Settings) (list bytes : List ℕ) → Builds s list bytes → sent_list bytes ≡ blanked_list list
unfolding sent_list plan
sent_list_lem s list bytes g =
    let n : ℕ = length bytes / 240 in
    let o = answered s list (length bytes) n g.answers in
    let lines : sent_lines bytes ≡ list_lines list =
    ap sent_lines (sym (sym o.output_is ∙ g.writes))
    ∙ sent_lines_lem (plan s (list_lines list)) (accepted s list (length bytes) n g.answers) o.short in
    ap (joined print_line) lines ∙ sym (accepted_list s list (length bytes) n g.answers)

pub builds_unique : (s : Settings) (list other bytes : List ℕ) → Builds s list bytes → Builds s other bytes → blanked_list list ≡ blanked_list other
builds_unique s list other bytes g h = sym (sent_list_lem s list bytes g) ∙ sent_list_lem s other bytes h
