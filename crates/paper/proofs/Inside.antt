-- What an accepted listing has. No accepted location points outside its sequence.
use Prim.Native.Nat.{ℕ, zero, suc, ◌≤◌}
use native.Mathlib.Omega.{arith}
use native.Mathlib.Decide.{ℕ_discrete}
use mathlib.Core.Path.{◌≡◌, refl, sym, ap, ◌∙◌, subst}
use mathlib.Core.Bool.{Bool, true, false, ◌||◌}
use mathlib.Core.Logic.{◌⊎◌, inl, inr}
use mathlib.Core.List.{List, [], ◌∷◌, map, reverse_aux, List-discrete}
use mathlib.Core.Option.{Option, none, some}
use lib.ListN.{length}
use lib.Dec.{ltb}
use borrow.Author.Tests.{ltb-false}
use Rattle.paper.specs.Bytes.{bytes}
use Rattle.paper.specs.Lists.{Nth, ◌∈◌}
use Rattle.paper.specs.Tree.{Feature, Table, Sequence, Listing, features_in, features_of}
use Rattle.paper.specs.Layout.{LaidOut}
use Rattle.paper.specs.Locations.{Piece, point, before, after, range, site, Member, Location, one, many, piece_text, complement, member_text, members_text, location_text, Locates, Span, span_of, member_span, spans, members_of, any, is_wrong, breaks25}
use Rattle.paper.specs.Rules.{L, Skipped, sequence, table, feature, rule_25, rule_29}
use Rattle.paper.specs.Answers.{limit, give, Checked, accepted}
use Rattle.paper.specs.Demands.{Inside}
use Rattle.paper.proofs.Decimal.{number_positive}
use Rattle.paper.proofs.Lists.{of_map}

or_false : (a b : Bool) → (a || b) ≡ false → (a ≡ false) × (b ≡ false)
or_false true b e = absurd (let z : ◌≡◌ {A = Bool} true false = e in let y : ◌≡◌ {A = ℕ} 0 1 = cc in omega arith)
or_false false b e = (refl, e)

piece_inside : (n : ℕ) (c : Bool) (p : Piece) (at : ℕ) (w : List ℕ) → is_wrong n p ≡ false → piece_text p at w → Inside n (span_of c p)
piece_inside n c (point x) at w e t =
    let h = ltb-false n x e in
    let k = number_positive t in
    record { first_low = k; first_high = h; last_low = k; last_high = h }
piece_inside n c (before x) at w e t =
    let h = ltb-false n x e in
    let k = number_positive t.4 in
    record { first_low = k; first_high = h; last_low = k; last_high = h }
piece_inside n c (after x) at w e t =
    let h = ltb-false n x e in
    let k = number_positive t.4 in
    record { first_low = k; first_high = h; last_low = k; last_high = h }
piece_inside n c (range a x b y) at w e t =
    let o = (or_false (ltb n x || ltb n y) (ltb y x) e).0 in
    let q = or_false (ltb n x) (ltb n y) o in
    record {
      first_low = number_positive t.3.3.3.4;
      first_high = ltb-false n x q.0;
      last_low = number_positive t.4;
      last_high = ltb-false n y q.1;
    }
piece_inside n c (site x y) at w e t =
    let q = or_false (ltb n x) (ltb n y) (or_false (ltb n x || ltb n y) _ e).0 in
    record {
      first_low = number_positive t.3.3;
      first_high = ltb-false n x q.0;
      last_low = number_positive t.4;
      last_high = ltb-false n y q.1;
    }

-- ---- the members of a location

-- a text of the piece stands somewhere
abbrev Stands : Piece → Type 0
Stands p = (at : ℕ) × (w : List ℕ) × piece_text p at w

member_stands : (m : Member) (at : ℕ) (w : List ℕ) → member_text m at w → Stands m.piece
member_stands m = go m.complemented
  where
    go : (c : Bool) (at : ℕ) (w : List ℕ) → complement c (piece_text m.piece) at w → Stands m.piece
    go true at w t = (_, _, t.3.4)
    go false at w t = (at, w, t)

-- the only element of a list
alone : {A : Type 0} (R : A → Type 0) (y : A) → R y → (i : ℕ) (x : A) → Nth (y ∷ []) i x → R x
alone R y r zero x h = subst R (sym h) r
alone R y r (suc i) x h = absurd h

abbrev Sound : Member → Type 0
Sound m = Stands m.piece

members_stand : (c : Bool) (l : List Member) (at : ℕ) (w : List ℕ) → members_text c l at w → (i : ℕ) (m : Member) → Nth l i m → Sound m
members_stand c [] at w t i m h = absurd h
members_stand c (n ∷ []) at w t i m h = alone Sound n (member_stands n at w t.1) i m h
members_stand c (n ∷ k ∷ l) at w t zero m h = subst Sound (sym h) (member_stands n _ _ t.3.3.1)
members_stand c (n ∷ k ∷ l) at w t (suc i) m h = members_stand c (k ∷ l) _ _ t.4 i m h

location_stands : (t : Location) (at : ℕ) (w : List ℕ) → location_text t at w → (i : ℕ) (m : Member) → Nth (members_of t) i m → Sound m
location_stands (one n) at w t i m h = alone Sound n (member_stands n at w t) i m h
location_stands (many true op l) at w t i m h = members_stand true l _ _ t.3.4.3.4.1 i m h
location_stands (many false op l) at w t i m h = members_stand false l _ _ t.3.4.1 i m h

none_such : {A : Type 0} (f : A → Bool) (l : List A) → any f l ≡ false → (i : ℕ) (x : A) → Nth l i x → f x ≡ false
none_such f [] e i x h = absurd h
none_such f (y ∷ l) e zero x h = ap f h ∙ (or_false (f y) (any f l) e).0
none_such f (y ∷ l) e (suc i) x h = none_such f l (or_false (f y) (any f l) e).1 i x h

-- ---- its spans

in_reversed : {A : Type 0} (l r : List A) (x : A) → x ∈ reverse_aux l r → x ∈ l ⊎ x ∈ r
in_reversed [] r x h = inr h
in_reversed (y ∷ l) r x h = go (in_reversed l (y ∷ r) x h)
  where
    go : x ∈ l ⊎ x ∈ (y ∷ r) → x ∈ (y ∷ l) ⊎ x ∈ r
    go (inl k) = inl (suc k.0, k.1)
    go (inr (zero, k)) = inl (0, k)
    go (inr (suc i, k)) = inr (i, k)

-- what holds of every member's span holds of every span
of_spans : (t : Location) (R : Span → Type 0) → ((c : Bool) (m : Member) → m ∈ members_of t → R (span_of c m.piece)) → (x : Span) → x ∈ spans t → R x
of_spans (one n) R g x h = alone R (member_span n) (g n.complemented n (0, refl)) h.0 x h.1
of_spans (many false op l) R g x h = of_map member_span l R (λ m i. g m.complemented m i) x h
of_spans (many true op l) R g x h = go (in_reversed (map back l) [] x h)
  where
    back : Member → Span
    back m = span_of true m.piece

    go : x ∈ map back l ⊎ x ∈ [] → R x
    go (inl k) = of_map back l R (λ m i. g true m i) x k
    go (inr k) = absurd k.1

-- a location that keeps rule 25 has its spans in 1 to n
pub spans_inside : (n : ℕ) (t : Location) {w : List ℕ} → Locates t w → breaks25 n t ≡ false → (x : Span) → x ∈ spans t → Inside n x
spans_inside n t {w} h e =
    of_spans t (Inside n)
    (λ c m i.
    let s = location_stands t 0 w h.is i.0 m i.1 in
    piece_inside n c m.piece s.0 s.1 (none_such (λ (m : Member). is_wrong n m.piece) (members_of t) e i.0 m i.1) s.2)

-- ---- an accepted listing

module _ {w : List ℕ} {l : Listing ℕ} where
  pub within_limit : Checked w (give l) → length w ≤ limit
  within_limit (accepted short laid clean) = short

  pub laid_out : Checked w (give l) → LaidOut l w
  laid_out (accepted short laid clean) = laid

-- a skipped sequence has no table (rule 29)
pub skipped_bare : {w : List ℕ} {l : Listing ℕ} → Checked w (give l) → (s : Sequence ℕ) → s ∈ l.sequences → Skipped s → s.table ≡ none
skipped_bare (accepted short laid clean) s i k = go s.table refl
  where
    go : (o : Option (Table ℕ)) → s.table ≡ o → s.table ≡ none
    go none e = e
    go (some t) e =
        absurd
        (clean 29 s.residues.place
        (sequence (suc i.0) s (i.0, refl, i.1) (rule_29 k (λ z. let n = z.4 in let y : ◌≡◌ {A = ℕ} 0 1 = cc in omega arith))))

-- every span of every feature of an accepted listing lies in its sequence
pub accepted_inside : {w : List ℕ} {l : Listing ℕ} → Checked w (give l) → (s : Sequence ℕ) → s ∈ l.sequences → (f : Feature ℕ) → f ∈ features_of s
    → (t : Location) → Locates t f.location.read → (x : Span) → x ∈ spans t → Inside (L s) x
accepted_inside {w} {l} (accepted short laid clean) s i f j t h = go (List-discrete ℕ_discrete s.residues.read (bytes "000"))
  where
    kept : ¬ Skipped s → (b : Bool) → breaks25 (L s) t ≡ b → breaks25 (L s) t ≡ false
    kept u true e = absurd (clean 25 f.location.place (sequence (suc i.0) s (i.0, refl, i.1) (table u (feature f j (inl (rule_25 t h e))))))
    kept u false e = e

    go : Dec (Skipped s) → (x : Span) → x ∈ spans t → Inside (L s) x
    go (yes k) = absurd (subst (λ (o : Option (Table ℕ)). f ∈ features_in o) (skipped_bare (accepted short laid clean) s i k) j).1
    go (no u) = spans_inside (L s) t h (kept u (breaks25 (L s) t) refl)
