-- The body of a sequence: where its entry in the contents points, and what stands there.
use Prim.Native.Nat.{ℕ, ◌+◌, ◌*◌, ◌-◌, ◌/◌, ◌≤◌, ◌<◌}
use native.Mathlib.Omega.{arith}
use mathlib.Core.Path.{◌≡◌, sym, ap, ◌∙◌, subst}
use mathlib.Core.List.{List, [], ◌∷◌, ◌++◌, map, append_assoc}
use lib.ListN.{length, length-append}
use Rattle.std.specs.Prelude.{Ok, Err}
use Rattle.paper.specs.Lists.{Numbered, gather}
use Rattle.paper.specs.Tree.{Sequence, Listing, features_of}
use Rattle.paper.specs.Rules.{Skipped}
use Rattle.paper.specs.Index.{place_and_length, size_of, kind_in, feature_entry, body_of, entries, first_body, contents_of, index_of}
use Rattle.paper.proofs.Lists.{numbered_inside, Parted, parted, length-map, gather_parted}
use Rattle.paper.proofs.Index.{length_entries, entries_append, length_features, kind_small, kind_skipped, kind_none, unskipped}
use Rattle.value_words.specs.declared.Molecule.{Molecule}
use Rattle.walk_steps.specs.declared.Range.{Range}
use Rattle.index_find.specs.Numbers.{number_at}
use Rattle.index_find.specs.Finds.{NumbersAt, Fits, PartFound, molecule_number, no_sequence, skipped, BodyFound}
use Rattle.index_find.proofs.Numbers.{numbers_all, number_is, numbers_first, numbers_behind}

-- ---- in an index

module _ {x : List ℕ} (l : Listing ℕ) (e : x ≡ index_of l) (f : Fits (contents_of l ++ gather body_of l.sequences)) where
  whole : NumbersAt x 0 (contents_of l ++ gather body_of l.sequences)
  whole = numbers_all e f

  counted : number_at x 0 ≡ length l.sequences
  counted = number_is whole

  module _ {i : ℕ} (p : Parted l.sequences i) where
    -- where the body of this sequence starts
    abbrev start : ℕ
    start = first_body l + size_of (gather body_of p.before)

    -- what stands in the contents before its entry, and behind
    abbrev passed : List ℕ
    passed = length l.sequences ∷ entries (first_body l) (map body_of p.before)

    abbrev others : List ℕ
    others = entries (start + size_of (body_of p.item)) (map body_of p.behind) ++ gather body_of l.sequences

    entry_here : NumbersAt x (4 + 8 * i) (start ∷ size_of (body_of p.item) ∷ others)
    entry_here =
        numbers_behind passed (start ∷ size_of (body_of p.item) ∷ others) (subst (NumbersAt x 0) is whole)
        (omega (arith, length_entries (first_body l) (map body_of p.before), length-map body_of p.before, p.size))
      where
        is : contents_of l ++ gather body_of l.sequences ≡ passed ++ (start ∷ size_of (body_of p.item) ∷ others)
        is =
            ap (λ (m : List (Sequence ℕ)). (length l.sequences ∷ entries (first_body l) (map body_of m)) ++ gather body_of l.sequences) p.is
            ∙ ap (λ (m : List ℕ). (length l.sequences ∷ m) ++ gather body_of l.sequences) (entries_append body_of (first_body l) p.before (p.item ∷ p.behind))
            ∙ append_assoc passed _ (gather body_of l.sequences)

    size_here : number_at x (8 + 8 * i) ≡ size_of (body_of p.item)
    size_here = number_is {at = 8 + 8 * i} (numbers_behind (start ∷ []) (size_of (body_of p.item) ∷ others) entry_here (omega arith))

    body_here : NumbersAt x start (body_of p.item)
    body_here =
        let rest = gather body_of p.behind in
        let is =
        ap (◌++◌ (contents_of l)) (gather_parted body_of p)
        ∙ sym (append_assoc (contents_of l) (gather body_of p.before) (body_of p.item ++ rest)) in
        numbers_first (body_of p.item) rest
        (numbers_behind (contents_of l ++ gather body_of p.before) (body_of p.item ++ rest) (subst (NumbersAt x 0) is whole)
        (omega (
          arith,
          length-append (contents_of l) (gather body_of p.before),
          length_entries (first_body l) (map body_of l.sequences),
          length-map body_of l.sequences,
        )))

-- ---- what was read

-- the body of the sequence number k stands here
record Here (x : List ℕ) (l : Listing ℕ) (k first size : ℕ) : Type 0 where
  sequence : Sequence ℕ
  numbered : Numbered l.sequences k sequence
  numbers : NumbersAt x first (body_of sequence)
  size_is : size ≡ size_of (body_of sequence)

module _ {x : List ℕ} {k : ℕ} where
  pub none_zero : k ≡ 0 → BodyFound x k (Err (record { rule = 30; place = 0 }))
  none_zero z = record { says = λ l e f. no_sequence (λ s n. omega (arith, z, numbered_inside l.sequences k s n)) }

  pub none_above : {count : ℕ} → count ≡ number_at x 0 → count < k → BodyFound x k (Err (record { rule = 30; place = 0 }))
  none_above a h = record { says = λ l e f. no_sequence (λ s n. omega (arith, a, h, counted l e f, numbered_inside l.sequences k s n)) }

  -- the count of sequences, the start of the body and its size; n stands at its start
  module _ {count first size n : ℕ} (some : ¬ (k ≡ 0)) (a : count ≡ number_at x 0) (within : k ≤ count)
      (b : first ≡ number_at x (8 * k - 4)) (c : size ≡ number_at x (8 * k)) (d : n ≡ number_at x first) where
    here : (l : Listing ℕ) → x ≡ index_of l → Fits (contents_of l ++ gather body_of l.sequences) → Here x l k first size
    here l e f = go (parted l.sequences (k - 1) (omega (arith, some, a, within, counted l e f)))
      where
        go : Parted l.sequences (k - 1) → Here x l k first size
        go p =
            let at : 8 * k - 4 ≡ 4 + 8 * (k - 1) = omega (arith, some) in
            let next : 8 * k ≡ 8 + 8 * (k - 1) = omega (arith, some) in
            record {
              sequence = p.item;
              numbered = (k - 1, omega (arith, some), p.nth);
              numbers = rw (b, at, number_is (entry_here l e f p)) (body_here l e f p);
              size_is = rw (c, next) (size_here l e f p);
            }

    kind_is_lem : {l : Listing ℕ} (h : Here x l k first size) → n ≡ kind_in h.sequence
    kind_is_lem h = d ∙ number_is h.numbers

    pub body_skipped : n ≡ 0 → BodyFound x k (Err (record { rule = 31; place = 0 }))
    body_skipped z =
        record { says = λ l e f. let h = here l e f in skipped h.sequence h.numbered (kind_none h.sequence (sym (kind_is_lem h) ∙ z)) }

    pub body_found : ¬ (n ≡ 0) → {kind : Molecule} → (n < 4 → molecule_number kind ≡ n)
        → {place : ℕ} {residues : Range} → PartFound x place residues → place ≡ first + 4
        → {entries features : ℕ} → entries ≡ first + 12 → features ≡ size / 16
        → BodyFound x k (Ok (record { kind = kind; residues = residues; first = entries; count = features }))
    body_found z m r place_is entries-are counts =
        record {
          says =
              λ l e f.
              let h = here l e f in
              let s = h.sequence in
              let u : ¬ Skipped s = λ q. z (kind_is_lem h ∙ kind_skipped s q) in
              let features = gather feature_entry (features_of s) in
              let numbers = subst (NumbersAt x first) (unskipped s u) h.numbers in
              let entries = numbers_behind (kind_in s ∷ place_and_length s.residues) features numbers entries-are in (
                s,
                h.numbered,
                u,
                record {
                  kind = m (omega (arith, kind_is_lem h, kind_small s)) ∙ kind_is_lem h;
                  residues = r.says s.residues
                      (numbers_first (place_and_length s.residues) features
                      (numbers_behind (kind_in s ∷ []) (place_and_length s.residues ++ features) numbers place_is));
                  count = omega (arith, counts, h.size_is, ap length (unskipped s u), length_features (features_of s));
                  behind = entries.behind;
                  entries = entries.here;
                  fits = entries.fits;
                },
              );
        }
