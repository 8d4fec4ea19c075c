-- What a strict reading of a bucket hands to a step, kind by kind.
-- Assumes nothing.
use mathlib.Core.Path.{◌≡◌, refl, sym, ◌∙◌, ap, subst}
use Rattle.std.specs.Prelude.{Option, Some}
use Rattle.std.specs.Option.{option_map}
use mathlib.Core.List.{List, map}
use Prim.Native.Nat.{ℕ, ◌≤◌}
use native.Mathlib.Omega.{arith}
use lib.ListN.{length, length-map}
use Rattle.arrayvec.specs.ArrayVec.{ArrayVec}
use Rattle.buckets.specs.Lengths.{buckets_most, bucket_lines_most}
use Rattle.buckets.specs.declared.Line.{Line}
use Rattle.buckets.specs.declared.Head.{Head}
use Rattle.buckets.specs.declared.Pair.{Pair}
use Rattle.buckets.specs.declared.Entry.{Entry}
use Rattle.buckets.specs.Bucket.{Body, index_body, data_body, Bucket, read_bucket}
use Rattle.buckets.specs.Inner.Held.{Reading, Index, Data, bucket_with, head_of, contents_of, reading_of}
use Rattle.buckets.proofs.Chained.{map_found}
use Rattle.buckets.proofs.Good.{Good, GoodIndex, GoodData, bucket_good}
use Rattle.buckets.proofs.Buckets.{print_of_read_bucket}
use Rattle.listener.specs.Listener.{heed, heed_read}
use Rattle.listener.specs.Inner.OnReading.{SoundHead, Near, tagged_lines}
use Rattle.listener.specs.declared.Listener.{Listener}
use Rattle.listener.proofs.Steps.TagsAlone.{bare, heed_bare}
use Rattle.listener.proofs.Steps.HeldBuckets.{near_items, sound_head}

-- an index bucket was read
pub record IndexRead (h : Head) (ps : List Pair) (es : List Entry) (o : Option Bucket) : Type 0 where
  pub head : SoundHead h
  pub near : Near ps es
  pub is : (s : Listener) → heed s (bucket_with h (index_body ps es)) ≡ heed_read s o

-- a data bucket was read
pub record DataRead (h : Head) (f : ℕ) (tags : List ℕ) (o : Option Bucket) : Type 0 where
  pub head : SoundHead h
  pub near : f ≤ buckets_most
  pub few : length tags ≤ bucket_lines_most
  pub is : (s : Listener) → heed s (bucket_with h (data_body f (tagged_lines tags))) ≡ heed_read s o

module _ (bytes : List ℕ) (b : Bucket) (read : Some b ≡ read_bucket bytes) where
  fine : Good b
  fine = bucket_good b (print_of_read_bucket bytes (sym read)).1

  pub index_of : (qs : List Pair) (fs : List Entry) → b.body ≡ index_body qs fs → IndexRead (head_of b) qs fs (read_bucket bytes)
  unfolding head_of bucket_with
  index_of qs fs body =
      let rules : GoodIndex b.to_cycle qs fs = rw body at fine.good_rest in
      record {
        head = sound_head b fine;
        near = near_items b.to_cycle (omega (arith, fine.short_cycle)) qs fs rules;
        is = λ s. ap (λ x. heed s (bucket_with (head_of b) x)) (sym body) ∙ ap (heed_read s) read;
      }

  data_of : (f : ℕ) (ls : List Line) → b.body ≡ data_body f ls → DataRead (head_of b) f (map (λ l. l.tag) ls) (read_bucket bytes)
  unfolding head_of bucket_with bare tagged_lines
  data_of f ls body =
      let rules : GoodData b.to_cycle f ls = rw body at fine.good_rest in
      record {
        head = sound_head b fine;
        near = omega (arith, rules.follow_on_near, fine.short_cycle);
        few = omega (arith, length-map ls (λ (l : Line). l.tag), rules.few_lines_lem);
        is = λ s.
            heed_bare s (head_of b) f ls
            ∙ (ap (λ x. heed s (bucket_with (head_of b) x)) (sym body) ∙ ap (heed_read s) read);
      }

module _ (bytes : List ℕ) (r : Reading) (e : Some r ≡ option_map reading_of (read_bucket bytes)) where
  pub index_read : (ps : ArrayVec Pair) (es : ArrayVec Entry) → r.contents ≡ Index ps es → IndexRead r.head ps.items es.items (read_bucket bytes)
  unfolding reading_of
  index_read ps es is =
      let found = map_found reading_of (read_bucket bytes) r e in
      let b = found.0 in
      let head : head_of b ≡ r.head = ap (λ (x : Reading). x.head) (sym found.2) in
      by_body b found.1 head b.body refl (ap (λ (x : Reading). x.contents) (sym found.2) ∙ is)
    where
      by_body :
          (b : Bucket) → Some b ≡ read_bucket bytes → head_of b ≡ r.head → (x : Body) → b.body ≡ x → contents_of x ≡ Index ps es →
          IndexRead r.head ps.items es.items (read_bucket bytes)
      by_body b read head (index_body qs fs) body k =
          let pairs : qs ≡ ps.items = cc in
          let entries : fs ≡ es.items = cc in
          subst (λ h. IndexRead h ps.items es.items (read_bucket bytes)) head
          (subst (λ q. IndexRead (head_of b) q es.items (read_bucket bytes)) pairs
          (subst (λ g. IndexRead (head_of b) qs g (read_bucket bytes)) entries (index_of bytes b read qs fs body)))
      by_body b read head (data_body f ls) body k = absurd (let z : ◌≡◌ {A = ℕ} 0 1 = cc in omega arith)

  pub data_read : (f : ℕ) (tags : ArrayVec ℕ) → r.contents ≡ Data f tags → DataRead r.head f tags.items (read_bucket bytes)
  unfolding reading_of
  data_read f tags is =
      let found = map_found reading_of (read_bucket bytes) r e in
      let b = found.0 in
      let head : head_of b ≡ r.head = ap (λ (x : Reading). x.head) (sym found.2) in
      by_body b found.1 head b.body refl (ap (λ (x : Reading). x.contents) (sym found.2) ∙ is)
    where
      by_body :
          (b : Bucket) → Some b ≡ read_bucket bytes → head_of b ≡ r.head → (x : Body) → b.body ≡ x → contents_of x ≡ Data f tags →
          DataRead r.head f tags.items (read_bucket bytes)
      by_body b read head (index_body qs fs) body k = absurd (let z : ◌≡◌ {A = ℕ} 0 1 = cc in omega arith)
      by_body b read head (data_body g ls) body k =
          let follow : g ≡ f = cc in
          let held : map (λ (l : Line). l.tag) ls ≡ tags.items = cc in
          subst (λ h. DataRead h f tags.items (read_bucket bytes)) head
          (subst (λ q. DataRead (head_of b) q tags.items (read_bucket bytes)) follow
          (subst (λ ts. DataRead (head_of b) g ts (read_bucket bytes)) held (data_of bytes b read g ls body)))
