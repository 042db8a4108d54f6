-- Laws of the index: its numbers in bytes, its contents, its bodies and its size.
use Prim.Native.Nat.{ℕ, zero, suc, ◌+◌, ◌*◌, ◌≤◌, ◌<◌}
use native.Mathlib.Omega.{arith}
use native.Mathlib.Decide.{ℕ_discrete}
use mathlib.Core.Path.{◌≡◌, refl, sym, ap, ◌∙◌, subst}
use mathlib.Core.Bool.{Bool, true, false, cond}
use mathlib.Core.Logic.{⊎_elim}
use mathlib.Core.List.{List, [], ◌∷◌, ◌++◌, map, List-discrete}
use lib.ListN.{length, length-append}
use Rattle.paper.specs.Bytes.{bytes, same}
use Rattle.paper.specs.Lists.{◌∈◌, gather}
use Rattle.paper.specs.Tree.{Text, Feature, Sequence, Listing, features_of}
use Rattle.paper.specs.Layout.{LaidOut}
use Rattle.paper.specs.Rules.{Skipped, Kind, dna, rna, aa, IsKind}
use Rattle.paper.specs.Answers.{give, Checked, every_feature, part_of, kind_number}
use Rattle.paper.specs.Demands.{InListing}
use Rattle.paper.specs.Index.{little_end, in_bytes, size_of, place_and_length, is_skipped, is_of, kind_in, feature_entry, body_of, entries, first_body, contents_of, index_of}
use Rattle.paper.proofs.Texts.{same_is}
use Rattle.paper.proofs.Lists.{Every, every, length-map, of_append, of_gather, gather_append}
use Rattle.paper.proofs.Inside.{within_limit, laid_out, skipped_bare}
use Rattle.paper.proofs.Shown.{residues_stated, feature_stated}
use Rattle.paper.proofs.Sizes.{featured, length_featured, listing_room}

-- ---- numbers in bytes

pub length_in_bytes : (l : List ℕ) → length (in_bytes l) ≡ 4 * length l
length_in_bytes [] = refl
length_in_bytes (n ∷ l) = omega (arith, length_in_bytes l)

pub in_bytes_append : (a b : List ℕ) → in_bytes (a ++ b) ≡ in_bytes a ++ in_bytes b
in_bytes_append = gather_append little_end

-- ---- the contents

pub length_entries : (start : ℕ) (l : List (List ℕ)) → length (entries start l) ≡ 2 * length l
length_entries start [] = refl
length_entries start (b ∷ l) = omega (arith, length_entries (start + size_of b) l)

-- the second list's bodies start behind the first's
pub entries_append : {A : Type 0} (f : A → List ℕ) (start : ℕ) (a b : List A)
    → entries start (map f (a ++ b)) ≡ entries start (map f a) ++ entries (start + size_of (gather f a)) (map f b)
entries_append f start [] b = ap (λ (k : ℕ). entries k (map f b)) (omega arith)
entries_append f start (x ∷ a) b =
    let next = start + size_of (f x) in
    ap (λ (z : List ℕ). start ∷ size_of (f x) ∷ z)
    (entries_append f next a b
    ∙ ap (λ (k : ℕ). entries next (map f a) ++ entries k (map f b)) (omega (arith, length-append (f x) (gather f a))))

-- ---- a sequence's kind and body

module _ (s : Sequence ℕ) where
  pub is_skipped_lem : Skipped s → is_skipped s ≡ true
  is_skipped_lem k = ap (λ (v : List ℕ). same v (bytes "000")) k

  not_skipped : ¬ Skipped s → is_skipped s ≡ false
  not_skipped u = by (is_skipped s) refl
    where
      by : (t : Bool) → is_skipped s ≡ t → is_skipped s ≡ false
      by true e = absurd (u (same_is s.residues.read (bytes "000") e))
      by false e = e

  pub kind_skipped : Skipped s → kind_in s ≡ 0
  kind_skipped k = rw (is_skipped_lem k)

  pub kind_in_lem : (d : Kind) → IsKind d s → ¬ Skipped s → kind_in s ≡ kind_number d
  kind_in_lem dna e u = rw (not_skipped u, e)
  kind_in_lem rna e u = rw (not_skipped u, e)
  kind_in_lem aa e u = rw (not_skipped u, e)

  pub kind_none : kind_in s ≡ 0 → Skipped s
  kind_none e = by (is_skipped s) refl e
    where
      some_kind : (a b : Bool) → ¬ (cond a (kind_number dna) (cond b (kind_number rna) (kind_number aa)) ≡ 0)
      some_kind true b e = omega arith
      some_kind false true e = omega arith
      some_kind false false e = omega arith

      by : (t : Bool) → is_skipped s ≡ t → kind_in s ≡ 0 → Skipped s
      by true k e = same_is s.residues.read (bytes "000") k
      by false k e = absurd (some_kind (is_of dna s) (is_of rna s) (rw k at e))

  pub skipped_body : Skipped s → body_of s ≡ 0 ∷ s.residues.place ∷ 3 ∷ []
  skipped_body k = rw (is_skipped_lem k, k)

  -- the body of a sequence that isn't skipped
  abbrev pub whole_body : List ℕ
  whole_body = (kind_in s ∷ place_and_length s.residues) ++ gather feature_entry (features_of s)

  pub unskipped : ¬ Skipped s → body_of s ≡ whole_body
  unskipped u = rw (not_skipped u)

-- ---- an accepted listing

-- a skipped sequence has no table, so every body has one form
pub accepted_body : {w : List ℕ} {l : Listing ℕ} → Checked w (give l) → (s : Sequence ℕ) → s ∈ l.sequences → body_of s ≡ whole_body s
accepted_body c s i = go (List-discrete ℕ_discrete s.residues.read (bytes "000"))
  where
    go : Dec (Skipped s) → body_of s ≡ whole_body s
    go (yes k) = rw (is_skipped_lem s k, skipped_bare c s i k)
    go (no u) = unskipped s u

pub length_features : (l : List (Feature ℕ)) → length (gather feature_entry l) ≡ 4 * length l
length_features [] = refl
length_features (f ∷ l) = omega (arith, length_features l)

length_bodies : (l : List (Sequence ℕ)) → ((s : Sequence ℕ) → s ∈ l → body_of s ≡ whole_body s) → length (gather body_of l) ≡ 3 * length l + 4 * length (featured l)
length_bodies [] h = refl
length_bodies (s ∷ l) h =
    omega (
      arith,
      length-append (body_of s) (gather body_of l),
      ap length (h s (0, refl)),
      length_features (features_of s),
      length_featured s l,
      length_bodies l (λ t i. h t (suc i.0, i.1)),
    )

-- the bodies end where it does
pub index_ends : (l : Listing ℕ) → length (index_of l) ≡ first_body l + size_of (gather body_of l.sequences)
index_ends l =
    let sequences = l.sequences in
    omega (
      arith,
      length_in_bytes (contents_of l ++ gather body_of sequences),
      length-append (contents_of l) (gather body_of sequences),
      length_entries (first_body l) (map body_of sequences),
      length-map body_of sequences,
    )

module _ {w : List ℕ} {l : Listing ℕ} where
  pub index_size : Checked w (give l) → length (index_of l) ≡ 4 + 20 * length l.sequences + 16 * length (every_feature l)
  index_size c = omega (arith, index_ends l, length_bodies l.sequences (accepted_body c))

  -- it takes at most a quarter of what the listing takes
  pub index_room : LaidOut l w → Checked w (give l) → 4 * length (index_of l) ≤ length w
  index_room laid c = omega (arith, listing_room laid, index_size c)

-- ---- its numbers have 32 bits

-- no start or size is beyond the index's end
entry_most : {A : Type 0} (f : A → List ℕ) (start : ℕ) (l : List A) (n : ℕ) → n ∈ entries start (map f l) → n ≤ start + size_of (gather f l)
entry_most f start [] n m = absurd m.1
entry_most f start (x ∷ l) n (zero, e) = omega (arith, e)
entry_most f start (x ∷ l) n (suc zero, e) = omega (arith, e, length-append (f x) (gather f l))
entry_most f start (x ∷ l) n (suc (suc i), e) =
    omega (arith, entry_most f (start + size_of (f x)) l n (i, e), length-append (f x) (gather f l))

pub kind_small : (s : Sequence ℕ) → kind_in s < 4
kind_small s = by (is_skipped s) (is_of dna s) (is_of rna s)
  where
    by : (a b c : Bool) → cond a 0 (cond b (kind_number dna) (cond c (kind_number rna) (kind_number aa))) < 4
    by true b c = omega arith
    by false true c = omega arith
    by false false true = omega arith
    by false false false = omega arith

abbrev Small : ℕ → Type 0
Small n = n < 4294967296

module _ {w : List ℕ} {l : Listing ℕ} (c : Checked w (give l)) where
  in_contents : (n : ℕ) → n ∈ contents_of l → Small n
  in_contents n (zero, e) = omega (arith, e, within_limit c, index_room (laid_out c) c, index_size c)
  in_contents n (suc i, e) =
      omega
      (arith, entry_most body_of (first_body l) l.sequences n (i, e), index_ends l, within_limit c, index_room (laid_out c) c)

  in_part : (t : Text ℕ) → InListing w (part_of t) → Every Small (place_and_length t)
  in_part t h = (omega (arith, h, within_limit c), (omega (arith, h, within_limit c), tt))

  module _ (s : Sequence ℕ) (i : s ∈ l.sequences) where
    in_entry : (f : Feature ℕ) → f ∈ features_of s → (n : ℕ) → n ∈ feature_entry f → Small n
    in_entry f j n m =
        let stated = feature_stated (laid_out c) s i f j in
        ⊎_elim
        (every Small (place_and_length f.key) (in_part f.key (stated f.key (0, refl)).inside) n)
        (every Small (place_and_length f.location) (in_part f.location (stated f.location (1, refl)).inside) n)
        (of_append (place_and_length f.key) (place_and_length f.location) n m)

    in_body : (n : ℕ) → n ∈ body_of s → Small n
    in_body n m =
        let head = kind_in s ∷ place_and_length s.residues in
        ⊎_elim
        (every Small head (omega (arith, kind_small s), in_part s.residues (residues_stated (laid_out c) s i).inside) n)
        (of_gather feature_entry (features_of s) Small in_entry n)
        (of_append head (gather feature_entry (features_of s)) n (subst (λ (x : List ℕ). n ∈ x) (accepted_body c s i) m))

  pub fits : (n : ℕ) → n ∈ (contents_of l ++ gather body_of l.sequences) → n < 4294967296
  fits n m =
      ⊎_elim (in_contents n) (of_gather body_of l.sequences Small in_body n) (of_append (contents_of l) (gather body_of l.sequences) n m)

-- ---- an old index

-- the index of a listing is made of its bodies alone
pub same_index : (l m : Listing ℕ) → map body_of l.sequences ≡ map body_of m.sequences → index_of l ≡ index_of m
same_index l m e = by_bodies l ∙ ap of_bodies e ∙ sym (by_bodies m)
  where
    of_bodies : List (List ℕ) → List ℕ
    of_bodies b = in_bytes ((length b ∷ entries (4 + 8 * length b) b) ++ gather (λ x. x) b)

    gathered : (k : List (Sequence ℕ)) → gather body_of k ≡ gather (λ x. x) (map body_of k)
    gathered [] = refl
    gathered (s ∷ k) = ap (◌++◌ (body_of s)) (gathered k)

    by_bodies : (l : Listing ℕ) → index_of l ≡ of_bodies (map body_of l.sequences)
    by_bodies l =
        let n = length-map body_of l.sequences in
        rw n (ap (λ (x : List ℕ). in_bytes (contents_of l ++ x)) (gathered l.sequences))
