-- The index, sequence by sequence: its entry in the contents, and its body.
use Rattle.std.proofs.Common.{◌≡◌, ℕ, ◌+◌, ◌*◌, ◌%◌, ◌^◌, ◌≤◌, Bool, true, false, List, [], ◌∷◌, ◌++◌, map, length, sym, refl, ap, ◌∙◌, subst, subst₂, arith, length-append}
use Rattle.paper.specs.Bytes.{bytes, is_blank}
use Rattle.paper.specs.Lists.{gather}
use Rattle.paper.specs.Tree.{Sequence}
use Rattle.paper.specs.Layout.{child, sequence}
use Rattle.paper.specs.Answers.{limit}
use Rattle.paper.specs.Index.{in_bytes, size_of, body_of, entries}
use Rattle.paper.proofs.Lists.{gather_last, length-map}
use Rattle.paper.proofs.Index.{length_in_bytes, in_bytes_append, length_entries, entries_append}
use Rattle.std.specs.Prelude.{Ok}
use Rattle.std.specs.Result.{result_and}
use Rattle.lent_room.specs.Room.{Laid, Lays, LaysMore}
use Rattle.lent_room.specs.declared.Pass.{Pass}
use Rattle.lent_room.specs.declared.Pass.TheVariants.{Measure, Write, Compare}
use Rattle.lent_room.proofs.Passes.{lays_none}
use Rattle.read_steps.specs.Follow.{Not, closing}
use Rattle.walk_steps.specs.Stands.{Over, TellsChild}
use Rattle.walk_items.specs.Items.{MeetsSequence, IsSequence}
use Rattle.walk_items.specs.declared.FoundSequence.{FoundSequence}
use Rattle.walk_items.proofs.Sequences.{sequence_leads}
use Rattle.judge_faults.proofs.Seen.{Seen, seen_none, seen_next, seen_stuck, seen_all}
use Rattle.index_walk.specs.Bodies.{InWord, LaysBody, numbers_of, IndexLaid, LaysSequences, LaysIndex}
use Rattle.index_walk.specs.declared.Sized.{Sized}
use Rattle.index_walk.proofs.Sides.{Roomy, roomy_less, Sides, sides_first, sides_second, sides_more, sides_both}

-- ---- what has been laid

abbrev pub bodies_of : List (Sequence ℕ) → List ℕ
bodies_of = gather body_of

-- the contents' numbers of the sequences l of `total`, whose first body stands at `bodies`
abbrev pub contents_of : (total bodies : ℕ) → List (Sequence ℕ) → List ℕ
contents_of total bodies l = total ∷ entries bodies (map body_of l)

-- the numbers of an index with these sequences have 32 bits, contents and bodies don't meet, and they fit if they are written
pub record Bound (p : Pass) (bodies room : ℕ) (l : List (Sequence ℕ)) : Type 0 where
  pub apart : 4 + 8 * length l ≤ bodies
  pub small : InWord (bodies + size_of (bodies_of l))
  pub roomy : Roomy p (bodies + size_of (bodies_of l)) room

bound_less : {p : Pass} {bodies room : ℕ} (l : List (Sequence ℕ)) (x : Sequence ℕ) → Bound p bodies room (l ++ (x ∷ [])) → Bound p bodies room l
bound_less {p} {bodies = bodies} {room = room} l x b =
    let z = ap length (gather_last body_of l x) ∙ length-append (bodies_of l) (body_of x) in
    record {
      apart = omega (arith, b.apart, length-append l (x ∷ []));
      small = omega (arith, b.small, z);
      roomy = roomy_less p (bodies + size_of (bodies_of l)) (bodies + size_of (bodies_of (l ++ (x ∷ [])))) room (omega (arith, z)) b.roomy;
    }

-- where the next body starts, and contents and bodies side by side
pub record Laying (p : Pass) (total bodies : ℕ) (given room : List ℕ) (contents laid : Laid) (start : ℕ) (now : List ℕ) (l : List (Sequence ℕ)) : Type 0 where
  pub next : start ≡ bodies + size_of (bodies_of l)
  pub sides : Sides given room bodies (in_bytes (contents_of total bodies l)) (in_bytes (bodies_of l)) p contents laid now

abbrev pub Placed : Pass → (total bodies : ℕ) → (given room : List ℕ) → (contents laid : Laid) → ℕ → List ℕ → List (Sequence ℕ) → Type 0
Placed p total bodies given room contents laid start now l = Bound p bodies (length room) l → Laying p total bodies given room contents laid start now l

-- behind the count, whatever it is and wherever it was laid
pub record Indexing (p : Pass) (s : List ℕ) (first bodies : ℕ) (count : Laid) (given room : List ℕ) (contents laid : Laid) (start at : ℕ) (now : List ℕ) : Type 0 where
  pub kept : length now ≡ length room
  pub seen : (total : ℕ) (before : List ℕ) → Lays given 0 (in_bytes (total ∷ [])) before p count room → length s ≤ limit
      → Seen (child sequence) closing s first at (Placed p total bodies given before contents laid start now)

-- ---- sizes

length_contents : (total bodies : ℕ) (l : List (Sequence ℕ)) → length (in_bytes (contents_of total bodies l)) ≡ 4 + 8 * length l
length_contents total bodies l =
    length_in_bytes (contents_of total bodies l) ∙ omega (arith, length_entries bodies (map body_of l), length-map body_of l)

-- the entry of the sequence behind l
abbrev entry : ℕ → List (Sequence ℕ) → Sequence ℕ → List ℕ
entry bodies l x = (bodies + size_of (bodies_of l)) ∷ size_of (body_of x) ∷ []

-- one entry more
contents_more : (total bodies : ℕ) (l : List (Sequence ℕ)) (x : Sequence ℕ)
    → in_bytes (contents_of total bodies (l ++ (x ∷ []))) ≡ in_bytes (contents_of total bodies l) ++ in_bytes (entry bodies l x)
contents_more total bodies l x =
    ap (λ (e : List ℕ). in_bytes (total ∷ e)) (entries_append body_of bodies l (x ∷ []))
    ∙ in_bytes_append (contents_of total bodies l) (entry bodies l x)

bodies_more : (l : List (Sequence ℕ)) (x : Sequence ℕ) → in_bytes (bodies_of (l ++ (x ∷ []))) ≡ in_bytes (bodies_of l) ++ in_bytes (body_of x)
bodies_more l x = ap in_bytes (gather_last body_of l x) ∙ in_bytes_append (bodies_of l) (body_of x)

-- a sum that 32 bits hold doesn't wrap
sum_of : (bodies a : ℕ) {n start size b c : ℕ} → n ≡ (start + size) % 2 ^ 64 → start ≡ bodies + a → size ≡ b → c ≡ a + b → InWord (bodies + c) → n ≡ bodies + c
sum_of bodies a en es ez ec w = omega (arith, en, es, ez, ec, w)

-- ---- the loop

module _ {p : Pass} {s : List ℕ} {first bodies : ℕ} {count : Laid} {given room : List ℕ} where
  pub indexing_none : Indexing p s first bodies count given room count (Ok bodies) bodies first room
  indexing_none =
      record {
        kept = refl;
        seen =
            λ total before l h.
            seen_none (child sequence) closing first (Placed p total bodies given before count (Ok bodies) bodies room)
            (λ b. record { next = omega arith; sides = sides_first given before bodies (b.apart, b.roomy) l });
      }

  module _ {contents laid : Laid} {start at : ℕ} {now : List ℕ} {t : Bool} (here : TellsChild s at t)
      (w : Indexing p s first bodies count given room contents laid start at now) where
    module _ {g : FoundSequence} (h : t ≡ true) (f : MeetsSequence s at g) where
      over : Over (child sequence) (Not is_blank) s at g.next
      over = record { is = λ q e d fol. (f q e d fol).next }

      pub indexing_stuck : g.next ≤ at → {r : Laid} → LaysSequences p s first bodies count given room r now
      indexing_stuck stuck =
          record {
            kept = w.kept;
            says =
                λ l before c short e d fol b i.
                absurd
                (seen_stuck (bytes "SequenceData") (child sequence) sequence_leads closing (record { clash = refl; sharps = refl })
                (Placed p (length l) bodies given before contents laid start now) h (here.tells (bytes "SequenceData") refl) (w.seen (length l) before c short) over stuck l e d fol);
          }

      module _ {r : Sized} {more : Laid} {mid after : List ℕ} {a b n : ℕ} (body : LaysBody p s g laid given now r mid) (ea : a ≡ start % 4294967296)
          (eb : b ≡ r.size % 4294967296) (m : LaysMore given (in_bytes (a ∷ b ∷ [])) p contents more mid after) (en : n ≡ (start + r.size) % 2 ^ 64) where
        pub indexing_next : Indexing p s first bodies count given room more r.laid n g.next after
        indexing_next =
            record {
              kept = m.kept ∙ body.kept ∙ w.kept;
              seen =
                  λ total before c short.
                  seen_next (bytes "SequenceData") (child sequence) sequence_leads closing (record { clash = refl; sharps = refl })
                  (Placed p total bodies given before contents laid start now) (Placed p total bodies given before more r.laid n after) h
                  (here.tells (bytes "SequenceData") refl) (w.seen total before c short) over (λ l q e d fol was. one total before short l q e (f q e d fol) was);
            }
          where
            one : (total : ℕ) (before : List ℕ) → length s ≤ limit → (l : List (Sequence ℕ)) (q : Sequence ℕ) (e : ℕ) → IsSequence s q e g → Placed p total bodies given before contents laid start now l
                → Placed p total bodies given before more r.laid n after (l ++ (q ∷ []))
            one total before short l q e i was bound =
                let z = ap length (gather_last body_of l q) ∙ length-append (bodies_of l) (body_of q) in
                let u = was (bound_less l q bound) in
                let v = body.says short q e i (omega (arith, bound.small, z)) in
                let C = in_bytes (contents_of total bodies l) in
                let B = in_bytes (bodies_of l) in
                let lc = length_contents total bodies l in
                let le = length_in_bytes (entry bodies l q) in
                let fits : Roomy p (bodies + length (B ++ in_bytes (body_of q))) (length before) =
                roomy_less p (bodies + length (B ++ in_bytes (body_of q))) (bodies + size_of (bodies_of (l ++ (q ∷ [])))) (length before) (omega (arith, length-append B (in_bytes (body_of q)), length_in_bytes (bodies_of l), length_in_bytes (body_of q), z)) bound.roomy in
                let la = length-append l (q ∷ []) in
                let k = sides_second given before bodies (omega (arith, lc, bound.apart, la), fits) u.sides v.laid.says in
                let a-is : a ≡ bodies + size_of (bodies_of l) = omega (arith, ea, u.next, bound.small, z) in
                let b-is : b ≡ size_of (body_of q) = omega (arith, eb, v.size, bound.small, z) in
                let m' = subst₂ (λ (x y : ℕ). LaysMore given (in_bytes (x ∷ y ∷ [])) p contents more mid after) a-is b-is m in
                let j = sides_more given before bodies (omega (arith, lc, le, length-append C (in_bytes (entry bodies l q)), bound.apart, la), fits) k m'.says in
                record {
                  next = sum_of bodies (size_of (bodies_of l)) en u.next v.size (omega (arith, z)) bound.small;
                  sides = subst₂ (λ (x y : List ℕ). Sides given before bodies x y p more r.laid after)
                      (sym (contents_more total bodies l q)) (sym (bodies_more l q)) j;
                }

    -- all have been laid
    module _ (h : t ≡ false) where
      pub indexing_done : LaysSequences p s first bodies count given room (result_and contents laid) now
      indexing_done =
          record {
            kept = w.kept;
            says =
                λ l before c short e d fol b i.
                go p l before b i
                (λ k.
                sides_both given before bodies contents laid (omega (arith, b, length_contents (length l) bodies l))
                ((seen_all (bytes "SequenceData") (child sequence) sequence_leads closing (record { clash = refl; sharps = refl })
                (Placed p (length l) bodies given before contents laid start now) h (here.tells (bytes "SequenceData") refl) (w.seen (length l) before c short) l e d fol).0 k).sides);
          }
        where
          go : (c : Pass) (l : List (Sequence ℕ)) (before : List ℕ) → bodies ≡ 4 + 8 * length l → InWord (size_of (numbers_of l))
              → (Bound c bodies (length before) l → IndexLaid c (in_bytes (contents_of (length l) bodies l) ++ in_bytes (bodies_of l)) given before (result_and contents laid) now)
              → IndexLaid c (in_bytes (numbers_of l)) given before (result_and contents laid) now
          go c l before eb i k = by c (λ f. subst (λ (x : List ℕ). IndexLaid c x given before (result_and contents laid) now) (sym same) (k (bound f)))
            where
              -- the size of its numbers is where the bodies end
              whole : size_of (numbers_of l) ≡ bodies + size_of (bodies_of l)
              whole =
                  omega (arith, eb, length-append (length l ∷ entries (4 + 8 * length l) (map body_of l)) (bodies_of l), length_entries (4 + 8 * length l) (map body_of l), length-map body_of l)

              same : in_bytes (numbers_of l) ≡ in_bytes (contents_of (length l) bodies l) ++ in_bytes (bodies_of l)
              same = in_bytes_append (length l ∷ entries (4 + 8 * length l) (map body_of l)) (bodies_of l)
                  ∙ ap (λ (n : ℕ). in_bytes (contents_of (length l) n l) ++ in_bytes (bodies_of l)) (sym eb)

              bound : Roomy c (bodies + size_of (bodies_of l)) (length before) → Bound c bodies (length before) l
              bound f = record { apart = omega (arith, eb); small = omega (arith, i, whole); roomy = f }

              by : (c : Pass) → (Roomy c (bodies + size_of (bodies_of l)) (length before) → IndexLaid c (in_bytes (numbers_of l)) given before (result_and contents laid) now)
                  → IndexLaid c (in_bytes (numbers_of l)) given before (result_and contents laid) now
              by Measure f = tt
              by Write f = λ h. f (omega (arith, h, whole, length_in_bytes (numbers_of l))) h
              by Compare f = f tt

-- the count, and then the sequences
pub index_laid : {p : Pass} {s : List ℕ} {first total bodies n : ℕ} {count r : Laid} {given room now after : List ℕ} → n ≡ total % 4294967296
    → LaysMore given (in_bytes (n ∷ [])) p (Ok 0) count room now → LaysSequences p s first bodies count given now r after
    → LaysIndex p s first total bodies given room r after
index_laid {p} {total = total} {n = n} {count} {given = given} {room} {now} e m f =
    record {
      kept = f.kept ∙ m.kept;
      says =
          λ short l d st fol a b i.
          let k : n ≡ length l = omega (arith, e, a, i, length-append (length l ∷ entries (4 + 8 * length l) (map body_of l)) (bodies_of l), length_entries (4 + 8 * length l) (map body_of l), length-map body_of l) in
          f.says l room (subst (λ (j : ℕ). Lays given 0 (in_bytes (j ∷ [])) room p count now) k (m.says 0 [] room (lays_none p))) short d st fol b i;
    }
