-- Elements that hold elements: where their children stand, and where they end.
use Rattle.std.specs.Prelude as rust
use Rattle.std.proofs.Common.{◌≡◌, ℕ, ◌+◌, ◌<◌, Bool, true, false, not, cond, ◌&&◌, eqb, List, [], ◌∷◌, ◌++◌, length, get_or, drop, sym, refl, ap, ◌∙◌, subst, inl, inr, true≢false, append_assoc, arith, get_or-drop, eq-eqb, eqb-true}
use Rattle.std.specs.Prelude.{Some, None}
use mathlib.Core.Option.{Option, none, some}
use Rattle.paper.specs.Bytes.{bytes, is_blank}
use Rattle.paper.specs.Form.{Form, lit, run, ◌·◌, ◌∪◌, given, maybe}
use Rattle.paper.specs.Tree.{Text}
use Rattle.paper.specs.Layout.{blanks, tag, close, leaf, child, holding, holding?}
use Rattle.read_bytes.specs.Words.{StandsAt, There}
use Rattle.read_bytes.proofs.Words.{stands_long}
use Rattle.read_steps.specs.Follow.{Not, Starts, first, later, anything, closing, clash, clashes, sharp}
use Rattle.read_steps.specs.Follow as Follow
use Rattle.read_steps.specs.Texts.{Scanned}
use Rattle.read_steps.proofs.Fronts.{Leads, LeadsBy, leads_all, leads_seq, leads_by, leads_sharp, whole, maybe_starts, starts_sharp, starts_apart}
use Rattle.read_tags.proofs.Tags.{close_leads, leaf_element}
use Rattle.walk_steps.specs.Stands.{Stands, Past, tag_of, TellsTag, TellsChild, is_there, Ends, Finds, FindsIf, FindsMaybe, FindsLast, entering, leaving, shutting, OpensSo, missing, empty, holds}
use Rattle.walk_steps.specs.declared.Range.{Range}
use Rattle.walk_steps.specs.declared.Found.{Found}
use Rattle.walk_steps.specs.declared.Opened.{Opened}
use Rattle.walk_steps.proofs.Places.{part, join, wider, before, from, nothing_stands, past_these, run_ends}
use Rattle.walk_steps.proofs.Leaves.{starts_at, no_blank, first_byte}

-- ---- tags

-- a run, a `>` that is not in it, and blanks
pub upto_ends : (f : ℕ → Bool) {s : List ℕ} {at h b r : ℕ} → sharp f (bytes ">" ∷ []) ≡ true → Scanned f s at (length s) h → Past s h 1 b
    → Scanned is_blank s b (length s) r → Ends (run f · lit ">" · blanks) (Not is_blank) s at r
upto_ends f {s} g c p k =
    record {
      is =
          λ e d fol.
          let u = part (run f · lit ">") blanks d in
          let v = part (run f) (lit ">") u.1 in
          let n = before (Not f) v.2 (leads_sharp f (bytes ">") (lit ">") g (leads_all (bytes ">")) v.0 v.2.word (drop u.0 s) v.2.laid) in
          let eh = (run_ends f c).is v.0 v.1 n in
          (run_ends is_blank k).is e (from (past_these (bytes ">") refl p (from eh v.2)) u.2) fol;
    }

pub enter_ends : {s : List ℕ} {at h b r : ℕ} → Scanned is_blank s at (length s) h → Past s h 1 b → Scanned is_blank s b (length s) r
    → Ends entering (Not is_blank) s at r
enter_ends c p k = upto_ends is_blank refl c p k

pub leave_ends : {name s : List ℕ} {at a r : ℕ} → Ends (close name) anything s at a → Scanned is_blank s a (length s) r → Ends (leaving name) (Not is_blank) s at r
leave_ends {name} p c =
    record { is = λ e d fol. let u = part (close name) blanks d in (run_ends is_blank c).is e (from (p.is u.0 u.1 tt) u.2) fol }

-- one after another
pub then_ends : (F G : Form) {Fol : List ℕ → Type 0} {s : List ℕ} {at a r : ℕ} → ((b e : ℕ) → Stands G s b e → Not is_blank (drop b s))
    → Ends F (Not is_blank) s at a → Ends G Fol s a r → Ends (F · G) Fol s at r
then_ends F G sharp p q =
    record { is = λ e d fol. let u = part F G d in q.is e (from (p.is u.0 u.1 (sharp u.0 e u.2)) u.2) fol }

pub leaving_sharp : (name : List ℕ) {s : List ℕ} (b e : ℕ) → Stands (leaving name) s b e → Not is_blank (drop b s)
leaving_sharp name b e d = no_blank (bytes "</") refl (leads_seq (bytes "</") (close name) blanks (close_leads name)) d

-- ---- what may be missing

-- an element with the blanks after it starts with its tag
pub tag_leads : (name : List ℕ) (F : Form) → Leads (tag_of name) (tag name · F · blanks)
tag_leads name F = leads_seq (tag_of name) (tag name · F) blanks (leads_seq (tag_of name) (tag name) F (leads_all (tag_of name)))

pub tag_stands : (name : List ℕ) (F : Form) {s : List ℕ} {at e : ℕ} → Leads (tag_of name) F → Stands F s at e → StandsAt (tag_of name) s at
tag_stands name F {s} {at} {e} l d =
    let k = l at d.word d.laid in
    stands_long (omega arith) (k.0 ++ drop e s) (d.here ∙ ap (λ (c : List ℕ). c ++ drop e s) k.1 ∙ append_assoc (tag_of name) k.0 (drop e s))

-- F starts with the word k, seen by the view v. R is what is to be shown of an item that may be missing.
module _ {A : Type 0} (v : List ℕ → List ℕ) (k : List ℕ) (F : A → Form) (lead : LeadsBy v k F) {s : List ℕ} {at : ℕ} where
  pub absent_by : (R : Option A → ℕ → Type 0) → ((y : List ℕ) → v (drop at s) ≡ k ++ y → ⊥) → R none at
      → (o : Option A) (e : ℕ) → Stands (maybe F o) s at e → R o e
  absent_by R t n none e d = subst (R none) (nothing_stands d) n
  absent_by R t n (some a) e d = let y = lead a at d.word (drop e s) d.laid in absurd (t y.0 (ap v d.here ∙ y.1))

  pub present_by : (R : Option A → ℕ → Type 0) (l : List (List ℕ)) → clashes k l ≡ true → (y : List ℕ) × (v (drop at s) ≡ k ++ y)
      → ((a : A) (e : ℕ) → Stands (F a) s at e → Starts l (v (drop e s)) → R (some a) e)
      → (o : Option A) (e : ℕ) → Stands (maybe F o) s at e → Starts l (v (drop e s)) → R o e
  present_by R l c t h none e d fol =
      absurd (starts_apart k l (v (drop e s)) t.0 c (ap (λ (i : ℕ). v (drop i s)) (sym (nothing_stands d)) ∙ t.1) fol)
  present_by R l c t h (some a) e d fol = h a e d fol

  -- what it and the words after it start with
  pub starts_by : (l : List (List ℕ)) (o : Option A) {e : ℕ} → Stands (maybe F o) s at e → Starts l (v (drop e s)) → Starts (k ∷ l) (v (drop at s))
  starts_by l o {e} d fol = before (λ (z : List ℕ). Starts (k ∷ l) (v z)) d (maybe_starts v k F lead l o at d.word (drop e s) d.laid fol)

-- where the tag is not there no such item stands, and where it is one does
module _ {A : Type 0} (name : List ℕ) (F : A → Form) (leads : (a : A) → Leads (tag_of name) (F a)) {s : List ℕ} {at e : ℕ} where
  pub missing_none : ¬ StandsAt (tag_of name) s at → (o : Option A) → Stands (maybe F o) s at e → (o ≡ none) × (at ≡ e)
  missing_none t o d =
      absent_by whole (tag_of name) F (leads_by (tag_of name) F leads) (λ (i : Option A) (j : ℕ). (i ≡ none) × (at ≡ j))
      (λ y g. t (stands_long (omega arith) y g)) (refl, refl) o e d

  pub there_some : (l : List (List ℕ)) → Starts l (drop e s) → ¬ Starts l (drop at s) → (o : Option A) → Stands (maybe F o) s at e
      → (a : A) × (o ≡ some a) × Stands (F a) s at e
  there_some l fol t none d = absurd (t (subst (λ (i : ℕ). Starts l (drop i s)) (sym (nothing_stands d)) fol))
  there_some l fol t (some a) d = (a, refl, d)

  pub tag_starts : (l : List (List ℕ)) (o : Option A) → Stands (maybe F o) s at e → Starts l (drop e s) → Starts (tag_of name ∷ l) (drop at s)
  tag_starts l o d fol = starts_by whole (tag_of name) F (leads_by (tag_of name) F leads) l o d fol

pub leaf_leads : (name : List ℕ) (x : Text ℕ) → Leads (tag_of name) (child (leaf name) x)
leaf_leads name x = leads_seq (tag_of name) (leaf name x) blanks ((leaf_element name).leads x)

-- a word that is compared tells the tag from all words that it clashes with
pub there_tells : {name s : List ℕ} {at : ℕ} {t : Bool} (l : List (List ℕ)) → clashes (tag_of name) l ≡ true → There (tag_of name) s at t → TellsTag name l s at t
there_tells {name} {s} {at} l c t =
    record { other = λ h st. starts_apart (tag_of name) l (drop at s) (drop (at + length (tag_of name)) s) c (t.yes h).here st; none = t.no }

-- the byte behind `<` tells an element from an end tag
second : (s : List ℕ) (at : ℕ) (x y : List ℕ) {p : ℕ} → p ≡ get_or s (at + 1) 0 → drop at s ≡ x ++ y → get_or (x ++ y) 1 0 ≡ p
second s at x y byte e = sym (ap (λ (u : List ℕ). get_or u 1 0) e) ∙ get_or-drop at s 1 0 ∙ sym byte

pub child_tells : {s : List ℕ} {at p : ℕ} → p ≡ get_or s (at + 1) 0 → at < length s → TellsChild s at (not (eqb p 47))
child_tells {s} {at} {p} byte i = by (eqb p 47) refl
  where
    -- the end tag's byte is no name's first
    named : (name y : List ℕ) → clashes (tag_of name) closing ≡ true → drop at s ≡ tag_of name ++ y → p ≡ 47 → ⊥
    named [] y c g e = true≢false (sym c)
    named (b ∷ x) y c g e = by_byte x (eqb b 47) (eq-eqb b 47 (second s at (tag_of (b ∷ x)) y byte g ∙ e)) c
      where
        by_byte : (x : List ℕ) (q : Bool) → q ≡ true → cond q (clash x []) true && true ≡ true → ⊥
        by_byte [] true h c = true≢false (sym c)
        by_byte (a ∷ x) true h c = true≢false (sym c)
        by_byte x false h c = true≢false (sym h)

    ends : (z : List ℕ) → drop at s ≡ z → Starts closing z → p ≡ 47
    ends z e (later x4) = elim x4 [ ]
    ends z e (first y g) = sym (second s at (bytes "</") y byte (e ∙ g))

    by : (q : Bool) → eqb p 47 ≡ q → TellsChild s at (not q)
    by true h =
        record {
          inside = λ t. absurd (true≢false (sym t));
          tells = λ name c. record { other = λ t. absurd (true≢false (sym t)); none = λ t st. named name (drop (at + length (tag_of name)) s) c st.here (eqb-true p 47 h) };
        }
    by false h =
        record {
          inside = λ t. i;
          tells = λ name c. record { other = λ t st. true≢false (sym (eq-eqb p 47 (ends (drop at s) refl st)) ∙ h); none = λ t. absurd (true≢false t) };
        }

module _ {name s : List ℕ} {at : ℕ} {here : Bool} where
  pub leaf_absent : here ≡ false → FindsIf name here s at (record { part = None; next = at })
  leaf_absent h l t b o e d fol =
      let k = missing_none name (child (leaf name)) (leaf_leads name) (t.none h) o d in
      record { part = rw k.0 tt; next = k.1 }

  pub leaf_present : {r : Found Range} → here ≡ true → Finds (child (leaf name)) (Not is_blank) s at r → FindsIf name here s at (record { part = Some r.part; next = r.next })
  leaf_present h finds l t b o e d fol =
      let k = there_some name (child (leaf name)) (leaf_leads name) l fol (t.other h) o d in
      let y = finds k.0 e k.2 (starts_sharp is_blank l b (drop e s) fol) in
      record { part = rw k.1 y.part; next = y.next }

  pub leaf_before : {r : Found (rust.Option Range)} → There (tag_of name) s at here → FindsIf name here s at r → FindsMaybe name s at r
  leaf_before t f l b = f l (there_tells l b.clash t) b.sharps

  pub leaf_last : {r : Found (rust.Option Range)} → TellsChild s at here → FindsIf name here s at r → FindsLast name s at r
  leaf_last t f b = f closing (t.tells name b.clash) b.sharps

-- ---- an element that holds elements

-- its children stand from r on, then its end
pub record Inside (name : List ℕ) (C : Form) (s : List ℕ) (r e : ℕ) : Type 0 where
  pub end : ℕ
  pub children : Stands C s r end
  pub closes : Starts closing (drop end s)
  pub leaves : Stands (leaving name) s end e

closes_at : (name : List ℕ) {s : List ℕ} {at e : ℕ} → Stands (close name) s at e → Starts closing (drop at s)
closes_at name d = starts_at (bytes "</") (close_leads name) d

-- no blank stands before the children
abbrev pub Sharp : Form → Type 0
Sharp C = (at : ℕ) (w z : List ℕ) → C at w → Starts closing z → Not is_blank (w ++ z)

-- wherever they start
pub inside_at : (name : List ℕ) (C : Form) {s : List ℕ} {a m e : ℕ} → Stands (holding name C) s a m → Stands blanks s m e
    → (r : ℕ) × Stands entering s a r × Inside name C s r e
inside_at name C d after =
    let w = part blanks (lit ">" · blanks · C · close name) d in
    let k = part (lit ">" · blanks · C) (close name) w.2 in
    let c = part (lit ">" · blanks) C k.1 in
    let n = part (lit ">") blanks c.1 in
    (c.0, join (join w.1 n.1) n.2, record { end = k.0; children = c.2; closes = closes_at name k.2; leaves = join k.2 after })

-- where the walk has come to
pub inside : (name : List ℕ) (C : Form) {s : List ℕ} {a m r e : ℕ} → Sharp C → Ends entering (Not is_blank) s a r
    → Stands (holding name C) s a m → Stands blanks s m e → Inside name C s r e
inside name C {s} sharp p d after =
    let y = inside_at name C d after in
    let i = y.2 in
    let c = i.children in
    let er = p.is y.0 y.1 (before (Not is_blank) c (sharp y.0 c.word (drop i.end s) c.laid i.closes)) in
    record { end = i.end; children = from er c; closes = i.closes; leaves = i.leaves }

-- such a child
pub held_at : (name : List ℕ) (C : Form) {s : List ℕ} {at e : ℕ} → Stands ((tag name · holding name C) · blanks) s at e → (r : ℕ) × Inside name C s r e
held_at name C d =
    let u = part (tag name · holding name C) blanks d in
    let v = part (tag name) (holding name C) u.1 in
    let y = inside_at name C v.2 u.2 in
    (y.0, y.2)

pub held : (name : List ℕ) (C : Form) {s : List ℕ} {at a r e : ℕ} → Sharp C → Ends (tag name) anything s at a → Ends entering (Not is_blank) s a r
    → Stands ((tag name · holding name C) · blanks) s at e → Inside name C s r e
held name C sharp p q d =
    let u = part (tag name · holding name C) blanks d in
    let v = part (tag name) (holding name C) u.1 in
    inside name C sharp q (from (p.is v.0 v.1 tt) v.2) u.2

-- ---- an element that may be missing or empty

-- its children D stand from r on, then its end
pub record Within (name : List ℕ) (D : Form) (l : List (List ℕ)) (s : List ℕ) (r : Opened) (e : ℕ) : Type 0 where
  pub stop : ℕ
  pub children : Stands D s r.first stop
  pub follows : Starts (bytes "</" ∷ l) (drop stop s)
  pub ends : Stands (shutting name r.long) s stop e

module _ {A : Type 0} (name : List ℕ) (nothing : A → Type 0) (C : A → Form) (sharp : (a : A) → Sharp (C a))
    (D : Option A → Form) (absent : (at : ℕ) → D none at []) (void : (a : A) → nothing a → (at : ℕ) → D (some a) at []) (held-as : (a : A) (at : ℕ) (w : List ℕ) → C a at w → D (some a) at w) where
  abbrev pub E : A → Form
  E a = tag name · holding? name (nothing a) (C a)

  leads : (a : A) → Leads (tag_of name) (child E a)
  leads a = tag_leads name (holding? name (nothing a) (C a))

  abbrev pub Full : A → Form
  Full a = lit ">" · blanks · C a · close name

  full_leads : (a : A) → Leads (bytes ">") (Full a)
  full_leads a = leads_seq (bytes ">") (lit ">" · blanks · C a) (close name) (leads_seq (bytes ">") (lit ">" · blanks) (C a) (leads_seq (bytes ">") (lit ">") blanks (leads_all (bytes ">"))))

  module _ {s : List ℕ} {e : ℕ} (l : List (List ℕ)) (sharps : Follow.sharp is_blank l ≡ true) (fol : Starts l (drop e s)) where
    -- nothing stands, and what follows is here
    none_at : (D' : Form) (r : Opened) → r.long ≡ false → ((p : ℕ) → D' p []) → r.first ≡ e → Within name D' l s r e
    none_at D' r h n q =
        record {
          stop = r.first;
          children = record { word = []; laid = n r.first; size = omega arith; here = refl };
          follows = later (subst (λ (i : ℕ). Starts l (drop i s)) (sym q) fol);
          ends = rw h (record { word = []; laid = refl; size = omega (arith, q); here = ap (λ (i : ℕ). drop i s) q });
        }

    -- what stands behind the tag and the blanks
    at_head : {at a h : ℕ} (x : A) → Ends (tag name) anything s at a → Scanned is_blank s a (length s) h → Stands (child E x) s at e
        → (m : ℕ) × Stands (given (nothing x) (lit "/>") ∪ Full x) s h m × Stands blanks s m e
    at_head x p c d =
        let u = part (E x) blanks d in
        let v = part (tag name) (holding? name (nothing x) (C x)) u.1 in
        let w = part blanks (given (nothing x) (lit "/>") ∪ Full x) v.2 in
        let eh = (run_ends is_blank c).is w.0 (from (p.is v.0 v.1 tt) w.1) (head_sharp x w.0 u.0 w.2.word w.2.laid w.2.here) in
        (u.0, from eh w.2, u.2)
      where
        head_sharp : (x : A) (i m : ℕ) (w : List ℕ) → (given (nothing x) (lit "/>") ∪ Full x) i w → drop i s ≡ w ++ drop m s → Not is_blank (drop i s)
        head_sharp x i m w (inl k) q = subst (Not is_blank) (sym (q ∙ ap (λ (u : List ℕ). u ++ drop m s) k.1)) refl
        head_sharp x i m w (inr k) q = subst (Not is_blank) (sym q) (leads_sharp is_blank (bytes ">") (Full x) refl (full_leads x) i w (drop m s) k)

    empty_at : {h i n : ℕ} (x : A) (m : ℕ) → get_or s h 0 ≡ 47 → Past s h 2 i → Scanned is_blank s i (length s) n
        → Stands (given (nothing x) (lit "/>") ∪ Full x) s h m → Stands blanks s m e → Within name (D (some x)) l s (record { long = false; first = n }) e
    empty_at {h} {i} {n} x m byte p c d after = by_kind d.word d.laid d.size d.here
      where
        by_kind : (w : List ℕ) → (given (nothing x) (lit "/>") ∪ Full x) h w → m ≡ h + length w → drop h s ≡ w ++ drop m s
            → Within name (D (some x)) l s (record { long = false; first = n }) e
        by_kind w (inl k) z q =
            let ei = past_these (bytes "/>") refl p (record { word = w; laid = k.1; size = z; here = q }) in
            none_at (D (some x)) (record { long = false; first = n }) refl (void x k.0)
            ((run_ends is_blank c).is e (from ei after) (starts_sharp is_blank l sharps (drop e s) fol))
        by_kind w (inr k) z q =
            let g = first_byte 62 [] {F = Full x} (full_leads x) (record { word = w; laid = k; size = z; here = q }) in
            let o : ◌≡◌ {A = ℕ} 47 62 = sym byte ∙ g in
            absurd (omega arith)

    holds_at : {h i n : ℕ} (x : A) (m : ℕ) → ¬ (get_or s h 0 ≡ 47) → Past s h 1 i → Scanned is_blank s i (length s) n
        → Stands (given (nothing x) (lit "/>") ∪ Full x) s h m → Stands blanks s m e → Within name (D (some x)) l s (record { long = true; first = n }) e
    holds_at {h} {i} {n} x m byte p c d after = by_kind d.word d.laid d.size d.here
      where
        by_kind : (w : List ℕ) → (given (nothing x) (lit "/>") ∪ Full x) h w → m ≡ h + length w → drop h s ≡ w ++ drop m s
            → Within name (D (some x)) l s (record { long = true; first = n }) e
        by_kind w (inl k) z q =
            absurd (byte (first_byte 47 (bytes ">") {F = lit "/>"} (leads_all (bytes "/>")) (record { word = w; laid = k.1; size = z; here = q })))
        by_kind w (inr k) z q =
            let u = part (lit ">" · blanks · C x) (close name) (record { word = w; laid = k; size = z; here = q }) in
            let v = part (lit ">" · blanks) (C x) u.1 in
            let y = part (lit ">") blanks v.1 in
            let cl = closes_at name u.2 in
            let en = (run_ends is_blank c).is v.0 (from (past_these (bytes ">") refl p y.1) y.2)
            (before (Not is_blank) v.2 (sharp x v.0 v.2.word (drop u.0 s) v.2.laid cl)) in
            record { stop = u.0; children = wider (held-as x) (from en v.2); follows = closing_first (drop u.0 s) cl; ends = join u.2 after }
          where
            closing_first : (z : List ℕ) → Starts closing z → Starts (bytes "</" ∷ l) z
            closing_first z (later x8) = elim x8 [ ]
            closing_first z (first y h) = first y h

    pub within : {at : ℕ} {here : Bool} {r : Opened} → TellsTag name l s at here → OpensSo name here s at r → (o : Option A) → Stands (maybe (child E) o) s at e
        → Within name (D o) l s r e × (here ≡ is_there o)
    within {at} t (missing q) o d =
        let k = missing_none name (child E) leads (t.none q) o d in
        rw k.0 (none_at (D none) (record { long = false; first = at }) refl absent k.1, q)
    within t (empty g p c byte q n) o d =
        let k = there_some name (child E) leads l fol (t.other g) o d in
        let h = at_head k.0 p c k.2 in
        rw k.1 (empty_at k.0 h.0 byte q n h.1 h.2, g)
    within t (holds g p c byte q n) o d =
        let k = there_some name (child E) leads l fol (t.other g) o d in
        let h = at_head k.0 p c k.2 in
        rw k.1 (holds_at k.0 h.0 byte q n h.1 h.2, g)
