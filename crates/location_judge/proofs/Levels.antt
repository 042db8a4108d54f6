-- What `leaf` and `read` do at each way that they end.
use Prim.Native.Nat.{ℕ, suc, ◌+◌, ◌-◌, ◌<◌}
use native.Mathlib.Omega.{arith}
use mathlib.Core.Path.{◌≡◌, refl, sym, ap, ◌∙◌, subst}
use mathlib.Core.Bool.{Bool, true, false, ◌||◌, cond, or-false}
use mathlib.Core.Option.{none}
use mathlib.Core.List.{List}
use lib.Dec.{ltb}
use Rattle.std.specs.Prelude.{Option, None, Some}
use Rattle.paper.specs.Bytes.{bytes, raw}
use Rattle.paper.specs.Locations.{Piece, is_segment, is_odd, is_wrong, Member, Operator, join, order, operator_name, Location, one, many, operator_number}
use Rattle.paper.proofs.Locate.Model.{Got, then, uncomplemented, turn, leaf, close, gather, within, read}
use Rattle.read_bytes.specs.Words.{There}
use Rattle.location_judge.specs.Places.{RestIs, Stretch}
use Rattle.location_judge.specs.Judging.{AreFacts}
use Rattle.location_judge.specs.Readings.{Keeps, Pieces, wrong_of, out_within, OutSays, Outs, operator_of, number_of, Lists}
use Rattle.location_judge.specs.declared.pieces.Reach.{Reach}
use Rattle.location_judge.specs.declared.pieces.FoundPiece.{FoundPiece}
use Rattle.location_judge.specs.declared.judging.Facts.{Facts}
use Rattle.location_judge.specs.declared.judging.Located.{Located}
use Rattle.location_judge.specs.declared.operators.Operator.TheVariants.{Join, Order}
use Rattle.location_judge.specs.declared.operators.Opening.{Opening}
use Rattle.location_judge.proofs.Stand.{Lacks, begun, not_begun, stretch_text, stretch_join}
use Rattle.location_judge.proofs.Rule25.{keeps_segment, keeps_wrong}
use Rattle.location_judge.proofs.Words.{within_else, within_list, close_else}

pub out_by : (s : List ℕ) (top : ℕ) {g k : Got Location} (r : Option Located) → g ≡ k → OutSays s top k r → OutSays s top g r
out_by s top r e = subst (λ (x : Got Location). OutSays s top x r) (sym e)

-- ---- a segment or site

abbrev pub leaf_facts : Bool → Bool → Facts
leaf_facts wrong odd = record { wrong = wrong; complemented = false; unjudged = odd }

leaf_facts_lem : {L : ℕ} {a : Reach} {odd wrong : Bool} {p : Piece} → L < 4294967296 → Keeps false p a odd
    → wrong ≡ wrong_of L a.first a.last a.marks → AreFacts L (one (uncomplemented p)) (leaf_facts wrong odd)
leaf_facts_lem {L} {p = p} h k e =
    record {
      wrong = e ∙ keeps_wrong L h k ∙ sym (or-false (is_wrong L p));
      complemented = refl;
      unjudged = k.odds ∙ sym (or-false (is_odd p));
    }

module _ {s : List ℕ} {at top : ℕ} (far : Bool) where
  pub leaf_bad : Pieces s at false None → Outs s at top (leaf far) None
  leaf_bad h = record { within = tt; says = λ w st. rw (h.says w st) }

  module _ {x : FoundPiece} (h : Pieces s at false (Some x)) where
    pub leaf_read : {wrong : Bool} → top < 4294967296 → wrong ≡ wrong_of top x.reach.first x.reach.last x.reach.marks → (far || ltb x.reach.marks 8) ≡ true
        → Outs s at top (leaf far) (Some (record { end = x.end; facts = leaf_facts wrong x.odd }))
    leaf_read l e t =
        record {
          within = h.within.0;
          says = λ w st.
              let m = h.says w st in
              let q : (far || is_segment m.value) ≡ true = rw (keeps_segment m.holds) at t in
              record { value = one (uncomplemented m.value); rest = m.rest; is = rw (m.is, q); stands = m.stands; holds = leaf_facts_lem l m.holds e };
        }

    pub leaf_site : (far || ltb x.reach.marks 8) ≡ false → Outs s at top (leaf far) None
    leaf_site t =
        record {
          within = tt;
          says = λ w st.
              let m = h.says w st in
              let q : (far || is_segment m.value) ≡ false = rw (keeps_segment m.holds) at t in
              rw (m.is, q);
        }

-- ---- an operator's word

module _ {s : List ℕ} {at : ℕ} {t : Bool} (is_join : There (raw (bytes "join(")) s at t) where
  pub list_join : t ≡ true → Lists s at (Some (record { operator = Join; first = at + 5 }))
  list_join e =
      record {
        within = (omega arith, stretch_text (bytes "join(") is_join e);
        says = λ w st. let p = begun (bytes "join(") is_join st e in p;
      }

  module _ (e : t ≡ false) {u : Bool} (is-order : There (raw (bytes "order(")) s at u) where
    pub list_order : u ≡ true → Lists s at (Some (record { operator = Order; first = at + 6 }))
    list_order f =
        record {
          within = (omega arith, stretch_text (bytes "order(") is-order f);
          says = λ w st. let p = begun (bytes "order(") is-order st f in p;
        }

    pub list_no : u ≡ false → Lists s at None
    list_no f = record { within = tt; says = λ w st. lacks w st }
      where
        lacks : (w : List ℕ) → RestIs s at w → (o : Operator) → Lacks (bytes (operator_name o)) w
        lacks w st join = not_begun (bytes "join(") is_join st e
        lacks w st order = not_begun (bytes "order(") is-order st f

-- ---- complements

pub complement_stretch : {s : List ℕ} {at n : ℕ} {t u : Bool} → There (raw (bytes "complement(")) s at t → t ≡ true → Stretch s (at + 11) n
    → There (raw (bytes ")")) s n u → u ≡ true → Stretch s at (n + 1)
complement_stretch word e inside bracket b =
    stretch_join (stretch_text (bytes "complement(") word e) (stretch_join inside (stretch_text (bytes ")") bracket b))

pub operator_number_lem : (c : Bool) (op : Operator) (ms : List Member) → operator_number (many c op ms) ≡ number_of op
operator_number_lem c join ms = refl
operator_number_lem c order ms = refl

abbrev pub turned_facts : Facts → Facts
turned_facts f = record { wrong = f.wrong; complemented = true; unjudged = f.unjudged }

turned_facts_lem : {L : ℕ} (t : Location) {f : Facts} → AreFacts L t f → AreFacts L (turn t) (turned_facts f)
turned_facts_lem (one m) h = record { wrong = h.wrong; complemented = refl; unjudged = h.unjudged }
turned_facts_lem (many c join ms) h = record { wrong = h.wrong; complemented = refl; unjudged = h.unjudged }
turned_facts_lem (many c order ms) h = record { wrong = h.wrong; complemented = refl; unjudged = h.unjudged }

-- ---- a level

pub no_depth : {s : List ℕ} {at top depth : ℕ} (c l : Bool) {r : Option Located} → depth ≡ 0 → Outs s at top (leaf l) r → Outs s at top (read depth c l) r
no_depth {s} {at} {top} {depth} c l {r} e h = subst (λ (d : ℕ). Outs s at top (read d c l) r) (sym e) h

-- behind a word, what is read there: by `fc` inside a complement, by `fl` each member of a list
module _ {s : List ℕ} {at : ℕ} (c l : Bool) (fc fl : List ℕ → Got Location) where
  turns : {t : Bool} → There (raw (bytes "complement(")) s at t → t ≡ true → {w : List ℕ} → RestIs s at w → {b : Bool} → c ≡ b
      → (z : List ℕ) × RestIs s (at + 11) z × (within fc fl c l w ≡ cond b (then (fc z) close) none)
  turns word e st k =
      let p = begun (bytes "complement(") word st e in
      (p.0, p.2, ap (within fc fl c l) p.1 ∙ ap (λ (b : Bool). cond b (then (fc p.0) close) none) k)

  lists : {x : Opening} → Lists s at (Some x) → {w : List ℕ} → RestIs s at w → {b : Bool} → l ≡ b
      → (z : List ℕ) × RestIs s x.first z × (within fc fl c l w ≡ cond b (gather fl (operator_of x.operator) z) none)
  lists {x} h {w} st k =
      let p = h.says w st in
      let o = operator_of x.operator in
      (p.0, p.2, ap (within fc fl c l) p.1 ∙ within_list fc fl c l o p.0 ∙ ap (λ (b : Bool). cond b (gather fl o p.0) none) k)

module _ {s : List ℕ} {at top : ℕ} (c l : Bool) (fc fl : List ℕ → Got Location) where
  module _ {t : Bool} (word : There (raw (bytes "complement(")) s at t) (e : t ≡ true) where
    pub comp_not : c ≡ false → Outs s at top (within fc fl c l) None
    comp_not k = record { within = tt; says = λ w st. (turns c l fc fl word e st k).2 }

    -- what is read inside, and `)`
    comp_by : c ≡ true → (r : Option Located) → out_within s at r → ((z : List ℕ) → RestIs s (at + 11) z → OutSays s top (then (fc z) close) r)
        → Outs s at top (within fc fl c l) r
    comp_by k r i f = record { within = i; says = λ w st. let p = turns c l fc fl word e st k in out_by s top r p.2 (f p.0 p.1) }

    pub comp_bad : c ≡ true → Outs s (at + 11) top fc None → Outs s at top (within fc fl c l) None
    comp_bad k h = comp_by k None tt (λ z st. ap (λ (g : Got Location). then g close) (h.says z st))

    module _ (k : c ≡ true) {x : Located} (h : Outs s (at + 11) top fc (Some x)) {u : Bool} (bracket : There (raw (bytes ")")) s x.end u) where
      pub comp_open : u ≡ false → Outs s at top (within fc fl c l) None
      comp_open b =
          comp_by k None tt
          (λ z st.
          let m = h.says z st in
          ap (λ (g : Got Location). then g close) m.is ∙ close_else m.value m.rest (not_begun (bytes ")") bracket m.stands b))

      pub comp_good : u ≡ true → Outs s at top (within fc fl c l) (Some (record { end = x.end + 1; facts = turned_facts x.facts }))
      comp_good b =
          comp_by k (Some (record { end = x.end + 1; facts = turned_facts x.facts })) (complement_stretch word e h.within bracket b)
          (λ z st.
          let m = h.says z st in
          let p = begun (bytes ")") bracket m.stands b in
          record {
            value = turn m.value;
            rest = p.0;
            is = ap (λ (g : Got Location). then g close) m.is ∙ ap (close m.value) p.1;
            stands = p.2;
            holds = turned_facts_lem m.value m.holds;
          })

  -- no word
  pub level_leaf : {t : Bool} → There (raw (bytes "complement(")) s at t → t ≡ false → Lists s at None
      → {r : Option Located} → Outs s at top (leaf l) r → Outs s at top (within fc fl c l) r
  level_leaf word e h {r} k =
      record {
        within = k.within;
        says = λ w st. out_by s top r (within_else fc fl c l w (not_begun (bytes "complement(") word st e) (h.says w st)) (k.says w st);
      }

  module _ {x : Opening} (h : Lists s at (Some x)) where
    pub list_by : l ≡ true → (r : Option Located) → out_within s at r
        → ((z : List ℕ) → RestIs s x.first z → OutSays s top (gather fl (operator_of x.operator) z) r) → Outs s at top (within fc fl c l) r
    list_by k r i f = record { within = i; says = λ w st. let p = lists c l fc fl h st k in out_by s top r p.2 (f p.0 p.1) }

    pub list_not : l ≡ false → Outs s at top (within fc fl c l) None
    list_not k = record { within = tt; says = λ w st. (lists c l fc fl h st k).2 }

-- a level that is not the last
pub deep : {s : List ℕ} {at top : ℕ} (depth : ℕ) (c l : Bool) {r : Option Located} → (depth ≡ 0 → ⊥)
    → Outs s at top (within (read (depth - 1) false l) (read (depth - 1) c false) c l) r → Outs s at top (read depth c l) r
deep {s} {at} {top} depth c l {r} n h =
    let e : depth ≡ suc (depth - 1) = omega arith in
    subst (λ (d : ℕ). Outs s at top (read d c l) r) (sym e) h
