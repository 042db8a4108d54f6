-- Tags, attributes, leaves and elements that hold elements, from the readings of their parts. Each law is for every name.
use Prim.Native.Nat.{ℕ, ◌<◌, ◌≤◌}
use mathlib.Core.Path.{◌≡◌, refl, sym, ap, ◌∙◌, subst}
use mathlib.Core.Bool.{Bool, true, false}
use mathlib.Core.Logic.{inl, inr}
use mathlib.Core.Option.{Option}
use mathlib.Core.List.{List, [], ◌∷◌, ◌++◌, append_assoc}
use lib.ListN.{length}
use Rattle.paper.specs.Bytes.{bytes, is_blank}
use Rattle.paper.specs.Form.{Form, these, lit, ◌·◌, ◌∪◌, given, one, maybe, each, each⁺}
use Rattle.paper.specs.Tree.{Text}
use Rattle.paper.specs.Layout.{blanks, gap, text, tag, close, attribute, content, leaf, spoken, child, holding, holding?}
use Rattle.paper.proofs.Forms.{ev_seq, ev_these, ev_run, ev_gap, ev_close, Evers, evs_then, evs_after, evs_both}
use Rattle.std.specs.Prelude.{Err}
use Rattle.read_steps.specs.declared.Stuck.{Stuck}
use Rattle.read_steps.specs.Reads.{Step, going, stuck, Viable, Reads, Passes, Tried}
use Rattle.read_steps.specs.Follow.{Not, Starts, first, anything, skip, clashes, sharp, closing, StandsBefore}
use Rattle.read_steps.specs.Texts.{allowed_in, is_text}
use Rattle.read_steps.proofs.Steps.{as_reads, as_reads_at, seq, pass_then, then_pass, either_first, either_second, skip_tried, stop, more, onwards, failed}
use Rattle.read_steps.proofs.Fronts.{Leads, leads_these, leads_all, leads_seq, leads_starts, leads_sharp, leads_long, leads_by, LeadsBy, whole, StartsBy, starts_sharp, skip_gap, skip_none, maybe_starts, each_starts, not_there}
use Rattle.read_steps.proofs.Letters.{ev_text, sole_text}
use Rattle.read_steps.proofs.Soles.{Sole, Sure, sure_these, sure_one, sure_run, sure_seq, sole_seq, sole_then, sole_after, sole_before, sole_or, sole_maybe, sole_each, sole_some}

-- ---- `</name>`

pub close_reads : {s name : List ℕ} {x y v r : Step} → Passes (these (bytes "</" ++ name)) anything s x y
    → Passes blanks (Not is_blank) s y v → Passes (lit ">") anything s v r → Passes (close name) anything s x r
close_reads p b q =
    then_pass (λ at w z l g. leads_sharp is_blank (bytes ">") (lit ">") refl (leads_all (bytes ">")) at w z l) (ev_these (bytes ">"))
    (then_pass (λ at w z l g. tt) (ev_run is_blank) p b) q

pub close_leads : (name : List ℕ) → Leads (bytes "</") (close name)
close_leads name =
    leads_seq (bytes "</") _ (lit ">") (leads_seq (bytes "</") (these (bytes "</" ++ name)) blanks (leads_these (bytes "</") name))

close_closing : (name : List ℕ) (at : ℕ) (w z : List ℕ) → close name at w → Starts closing (w ++ z)
close_closing name at w z d = leads_starts (bytes "</") (close name) (close_leads name) at w z d

pub sure_gap : Sure gap (Not is_blank)
sure_gap = sure_seq (one is_blank) blanks anything (Not is_blank) (λ at w z l g. tt) (sure_one is_blank anything) (sure_run is_blank)

gt_sharp : (at : ℕ) (w z : List ℕ) → lit ">" at w → Not is_blank (w ++ z)
gt_sharp at w z l = leads_sharp is_blank (bytes ">") (lit ">") refl (leads_all (bytes ">")) at w z l

sure_close : (name : List ℕ) → Sure (close name) anything
sure_close name =
    sure_seq (these (bytes "</" ++ name) · blanks) (lit ">") (Not is_blank) anything (λ at w z l g. gt_sharp at w z l)
    (sure_seq (these (bytes "</" ++ name)) blanks anything (Not is_blank) (λ at w z l g. tt) (sure_these (bytes "</" ++ name) anything) (sure_run is_blank))
    (sure_these (bytes ">") anything)

-- ---- an attribute

module _ (name : List ℕ) (named : sharp is_blank (name ∷ []) ≡ true) where
  name_sharp : (at : ℕ) (w z : List ℕ) → these (name ++ bytes "=\"") at w → Not is_blank (w ++ z)
  name_sharp at w z l = leads_sharp is_blank name (these (name ++ bytes "=\"")) named (leads_these name (bytes "=\"")) at w z l

  pub attribute_reads : {s : List ℕ} {x y v t r : Step} → Passes gap (Not is_blank) s x y → Passes (these (name ++ bytes "=\"")) anything s y v
      → Reads (text (allowed_in false)) (Not (is_text false)) s v t → Passes (lit "\"") anything s t r → Reads (attribute name) anything s x r
  attribute_reads a b c d =
      then_pass (λ at w z l g. leads_sharp (is_text false) (bytes "\"") (lit "\"") refl (leads_all (bytes "\"")) at w z l) (ev_these (bytes "\""))
      (pass_then (λ t at w z l g. tt) (ev_text false)
      (then_pass (λ at w z l g. name_sharp at w z l) (ev_these (name ++ bytes "=\"")) a b) c) d

  pub sole_attribute : Sole (attribute name) anything
  sole_attribute =
      sole_then (λ (t : Text ℕ). gap · these (name ++ bytes "=\"") · text (allowed_in false) t) (lit "\"") (Not (is_text false)) anything
      (λ at w z l g. leads_sharp (is_text false) (bytes "\"") (lit "\"") refl (leads_all (bytes "\"")) at w z l)
      (sole_after (text (allowed_in false)) (gap · these (name ++ bytes "=\"")) anything (Not (is_text false)) (λ t at w z l g. tt)
      (sure_seq gap (these (name ++ bytes "=\"")) (Not is_blank) anything (λ at w z l g. name_sharp at w z l) sure_gap
      (sure_these (name ++ bytes "=\"") anything)) (sole_text false))
      (sure_these (bytes "\"") anything)

pub ev_attribute : (name : List ℕ) → Evers (attribute name)
ev_attribute name =
    evs_then _ (lit "\"")
    (evs_after (gap · these (name ++ bytes "=\"")) (text (allowed_in false)) (ev_seq gap (these (name ++ bytes "=\"")) ev_gap (ev_these (name ++ bytes "=\""))) (ev_text false))
    (ev_these (bytes "\""))

-- behind its blanks an attribute starts with its name
pub attribute_leads : (name : List ℕ) → sharp is_blank (name ∷ []) ≡ true → LeadsBy skip name (attribute name)
attribute_leads name named t at w z d =
    let h = d.3.3 in
    let g = h.3 in
    let e = skip_gap at h.0 (h.1 ++ (d.3.1 ++ (d.1 ++ z))) g in
    let n = leads_these name (bytes "=\"") 0 h.1 h.4 in (
      n.0 ++ (d.3.1 ++ (d.1 ++ z)),
      ap skip (ap (λ (u : List ℕ). u ++ z) (d.2 ∙ ap (λ (u : List ℕ). u ++ d.1) (d.3.2 ∙ ap (λ (u : List ℕ). u ++ d.3.1) h.2)) ∙ regroup h.0 h.1 d.3.1 d.1 z)
          ∙ e
          ∙ skip_none (h.1 ++ (d.3.1 ++ (d.1 ++ z))) (leads_sharp is_blank name (these (name ++ bytes "=\"")) named (leads_these name (bytes "=\"")) 0 h.1 _ h.4)
          ∙ ap (λ (u : List ℕ). u ++ (d.3.1 ++ (d.1 ++ z))) n.1
          ∙ append_assoc name n.0 (d.3.1 ++ (d.1 ++ z)),
    )
  where
    regroup : (a b c d e : List ℕ) → (((a ++ b) ++ c) ++ d) ++ e ≡ a ++ (b ++ (c ++ (d ++ e)))
    regroup a b c d e = simp append_assoc

-- ---- the text of a leaf

-- no text of M starts with one of L: they lead with words that clash
pub apart_leads : {A : Type 0} (L M : A → Form) (k m : List ℕ) → ((a : A) → Leads k (L a)) → ((a : A) → Leads m (M a)) → clashes m (k ∷ []) ≡ true
    → (a b : A) (at : ℕ) (w x z y : List ℕ) → L a at w → M b at x → anything z → x ++ z ≡ w ++ y → ⊥
apart_leads L M k m h j p a b at w x z y l d f e =
    let u = h a at w l in
    not_there whole m M (leads_by m M j) (k ∷ []) p b at x z d (first (u.0 ++ y) (e ∙ ap (λ (c : List ℕ). c ++ y) u.1 ∙ append_assoc k u.0 y))

pub text_sharp : (h : Bool) → sharp (is_text h) (bytes "</" ∷ []) ≡ true
text_sharp true = refl
text_sharp false = refl

abbrev pub Short : ℕ → Text ℕ → Form
Short start t = given ((t.place ≡ start) × (t.read ≡ [])) (lit "/>")

abbrev pub Long : List ℕ → Bool → Text ℕ → Form
Long name high t = lit ">" · text (allowed_in high) t · close name

abbrev pub Body : List ℕ → Bool → ℕ → Text ℕ → Form
Body name high start t = Short start t ∪ Long name high t

module _ (name : List ℕ) (high : Bool) (start : ℕ) where
  pub long_leads : (t : Text ℕ) → Leads (bytes ">") (Long name high t)
  long_leads t = leads_seq (bytes ">") _ (close name) (leads_seq (bytes ">") (lit ">") (text (allowed_in high) t) (leads_all (bytes ">")))

  short_long : (a b : Text ℕ) (at : ℕ) (w x z y : List ℕ) → Short start a at w → Long name high b at x → anything z → x ++ z ≡ w ++ y → ⊥
  short_long = apart_leads (Short start) (Long name high) (bytes "/") (bytes ">") (λ t at w l. (bytes ">", l.1)) long_leads refl

  short_reads : {s : List ℕ} {x y : Step} → Passes (lit "/>") anything s x y → Reads (Short start) anything s x y
  short_reads e =
      as_reads {M = Short start} (λ u at w. record { place = start; read = [] }) (λ u at w l. ((refl, refl), l))
      (λ t at w l. (tt, l.1, λ i. record { place = l.0.0 i; read = l.0.1 i })) e

  pub body_short : {s : List ℕ} {at far n f : ℕ} → Passes (lit "/>") anything s (going at far) (going n f) → Reads (Body name high start) anything s (going at far) (going n f)
  body_short e = either_first short_long (short_reads e)

  pub body_long : {s : List ℕ} {at far k : ℕ} {b d r : Step} → Passes (lit "/>") anything s (going at far) (stuck k)
      → Passes (lit ">") anything s (going at k) b → Reads (text (allowed_in high)) (Not (is_text high)) s b d → Passes (close name) anything s d r
      → Reads (Body name high start) anything s (going at far) r
  body_long e p q c =
      either_second short_long (short_reads e)
      (then_pass (λ at w z l g. leads_sharp (is_text high) (bytes "</") (close name) (text_sharp high) (close_leads name) at w z l) (ev_close name)
      (pass_then (λ t at w z l g. tt) (ev_text high) p q) c)

  pub body_sharp : (t : Text ℕ) (at : ℕ) (w z : List ℕ) → Body name high start t at w → Not is_blank (w ++ z)
  body_sharp t at w z (inl l) = subst (λ (u : List ℕ). Not is_blank (u ++ z)) (sym l.1) refl
  body_sharp t at w z (inr l) = leads_sharp is_blank (bytes ">") (Long name high t) refl (long_leads t) at w z l

  ev_body : Evers (Body name high start)
  ev_body at = (record { place = start; read = [] }, bytes "/>", inl ((refl, refl), refl))

  sole_content : Sole (content name (allowed_in high) start) anything
  sole_content =
      sole_after (Body name high start) blanks (Not is_blank) anything (λ t at w z l g. body_sharp t at w z l) (sure_run is_blank)
      (sole_or (Short start) (Long name high) anything short_long
      (λ a b at w x z y p q f g e. ((λ i. record { place = (p.0.0 ∙ sym q.0.0) i; read = (p.0.1 ∙ sym q.0.1) i }), p.1 ∙ sym q.1))
      (sole_then (λ (t : Text ℕ). lit ">" · text (allowed_in high) t) (close name) (Not (is_text high)) anything
      (λ at w z l g. leads_sharp (is_text high) (bytes "</") (close name) (text_sharp high) (close_leads name) at w z l)
      (sole_after (text (allowed_in high)) (lit ">") anything (Not (is_text high)) (λ t at w z l g. tt) (sure_these (bytes ">") anything) (sole_text high))
      (sure_close name)))

  pub content_reads : {s : List ℕ} {x h r : Step} → Passes blanks (Not is_blank) s x h → Reads (Body name high start) anything s h r
      → Reads (content name (allowed_in high) start) anything s x r
  content_reads p q = pass_then {M = Body name high start} (λ t at w z l g. body_sharp t at w z l) ev_body p q

ev_content : (name : List ℕ) (high : Bool) (start at : ℕ) → Viable (content name (allowed_in high) start) at []
ev_content name high start = evs_after blanks (Body name high start) (ev_run is_blank) (ev_body name high start)

-- ---- an element: its texts start with its tag, it has a text, and a text of it is of one value

pub record Element {A : Type 0} (E : A → Form) (name : List ℕ) : Type 0 where
  pub leads : (a : A) → Leads (bytes "<" ++ name) (E a)
  pub ever : Evers E
  pub sole : Sole E anything

tag_leads : (name : List ℕ) (G : Form) → Leads (bytes "<" ++ name) (tag name · G)
tag_leads name G = leads_seq (bytes "<" ++ name) (tag name) G (leads_all (bytes "<" ++ name))

-- a leaf
pub leaf_reads : {s name : List ℕ} {at far : ℕ} {y r : Step} → Passes (tag name) anything s (going at far) y
    → Reads (content name (allowed_in false) at) anything s y r → Reads (leaf name) anything s (going at far) r
leaf_reads {s} {name} {at} {far} p q =
    as_reads_at {L = λ (t : Text ℕ). tag name · content name (allowed_in false) at t} {M = leaf name} (λ t w. t) (λ t w d. d) (λ t w d. (t, d, refl))
    (pass_then {M = content name (allowed_in false) at} (λ t at w z l g. tt) (ev_content name false at) p q)

pub leaf_element : (name : List ℕ) → Element (leaf name) name
leaf_element name =
    record {
      leads = λ t at w d. tag_leads name (content name (allowed_in false) at t) at w d;
      ever = λ at. evs_after (tag name) (content name (allowed_in false) at) (ev_these (bytes "<" ++ name)) (ev_content name false at) at;
      sole =
          λ a b at.
          sole_after (content name (allowed_in false) at) (tag name) anything anything (λ t at w z l g. tt) (sure_these (bytes "<" ++ name) anything) (sole_content name false at) a b at;
    }

-- a name or title with its language
pub spoken_reads : {s name : List ℕ} {at far : ℕ} {y v r : Step} → Passes (tag name) anything s (going at far) y
    → Reads (attribute (bytes "languageCode")) anything s y v → Reads (content name (allowed_in true) at) anything s v r → Reads (spoken name) anything s (going at far) r
spoken_reads {s} {name} {at} {far} p q c =
    as_reads_at {L = λ (x : Text ℕ × Text ℕ). tag name · attribute (bytes "languageCode") x.0 · content name (allowed_in true) at x.1} {M = spoken name}
    (λ x w. record { language_code = x.0; words = x.1 }) (λ x w d. d) (λ x w d. ((x.language_code, x.words), d, refl))
    (seq {L = λ (t : Text ℕ). tag name · attribute (bytes "languageCode") t} {M = content name (allowed_in true) at} (λ t at w z l g. tt) (ev_content name true at)
    (pass_then {M = attribute (bytes "languageCode")} (λ t at w z l g. tt) (ev_attribute (bytes "languageCode")) p q) c)

pub spoken_element : (name : List ℕ) → Element (spoken name) name
spoken_element name =
    record {
      leads = λ x at w d. leads_seq (bytes "<" ++ name) _ (content name (allowed_in true) at x.words) (tag_leads name (attribute (bytes "languageCode") x.language_code)) at w d;
      ever =
          λ at.
          let v = evs_both (λ (t : Text ℕ). tag name · attribute (bytes "languageCode") t) (content name (allowed_in true) at)
          (evs_after (tag name) (attribute (bytes "languageCode")) (ev_these (bytes "<" ++ name)) (ev_attribute (bytes "languageCode"))) (ev_content name true at) at in
          (record { language_code = v.0.0; words = v.0.1 }, v.1, v.2);
      sole =
          λ a b at w x z y p q f g e.
          let r = sole_seq (λ (t : Text ℕ). tag name · attribute (bytes "languageCode") t) (content name (allowed_in true) at) anything anything (λ t at w z l g. tt)
          (sole_after (attribute (bytes "languageCode")) (tag name) anything anything (λ t at w z l g. tt) (sure_these (bytes "<" ++ name) anything) (sole_attribute (bytes "languageCode") refl))
          (sole_content name true at) (a.language_code, a.words) (b.language_code, b.words) at w x z y p q f g e in
          ((λ i. record { language_code = (r.0 i).0; words = (r.0 i).1 }), r.1);
    }

-- ---- children

-- what may stand between the blanks of a start tag and an end tag
pub record Children {A : Type 0} (C : A → Form) : Type 0 where
  pub sharp_before : (a : A) (at : ℕ) (w z : List ℕ) → C a at w → Starts closing z → Not is_blank (w ++ z)
  pub ever : Evers C
  pub sole : Sole C (Starts closing)

abbrev pub Inner : {A : Type 0} → List ℕ → (A → Form) → A → Form
Inner name C a = lit ">" · blanks · C a · close name

module _ {A : Type 0} {C : A → Form} (name : List ℕ) (facts : Children C) where
  pub inner_leads : (a : A) → Leads (bytes ">") (Inner name C a)
  inner_leads a =
      leads_seq (bytes ">") _ (close name) (leads_seq (bytes ">") _ (C a) (leads_seq (bytes ">") (lit ">") blanks (leads_all (bytes ">"))))

  ev_inner : Evers (Inner name C)
  ev_inner =
      evs_then (λ (a : A). lit ">" · blanks · C a) (close name)
      (evs_after (lit ">" · blanks) C (ev_seq (lit ">") blanks (ev_these (bytes ">")) (ev_run is_blank)) facts.ever) (ev_close name)

  sole_inner : Sole (Inner name C) anything
  sole_inner =
      sole_then (λ (a : A). lit ">" · blanks · C a) (close name) (Starts closing) anything (λ at w z l g. close_closing name at w z l)
      (sole_after C (lit ">" · blanks) (Not is_blank) (Starts closing) facts.sharp_before
      (sure_seq (lit ">") blanks anything (Not is_blank) (λ at w z l g. tt) (sure_these (bytes ">") anything) (sure_run is_blank)) facts.sole)
      (sure_close name)

  module _ {s : List ℕ} where
    inner_reads : {x y v u r : Step} → Passes (lit ">") anything s x y → Passes blanks (Not is_blank) s y v → Reads C (Starts closing) s v u
        → Passes (close name) anything s u r → Reads (Inner name C) anything s x r
    inner_reads p b q c =
        then_pass (close_closing_at) (ev_close name)
        (pass_then facts.sharp_before facts.ever (then_pass (λ at w z l g. tt) (ev_run is_blank) p b) q) c
      where
        close_closing_at : (at : ℕ) (w z : List ℕ) → close name at w → anything z → Starts closing (w ++ z)
        close_closing_at at w z l g = close_closing name at w z l

    -- an element that needs its children
    pub holding_reads : {x h y v u r : Step} → Passes blanks (Not is_blank) s x h → Passes (lit ">") anything s h y → Passes blanks (Not is_blank) s y v
        → Reads C (Starts closing) s v u → Passes (close name) anything s u r → Reads (λ (a : A). holding name (C a)) anything s x r
    holding_reads a p b q c =
        pass_then {M = Inner name C} (λ t at w z l g. leads_sharp is_blank (bytes ">") (Inner name C t) refl (inner_leads t) at w z l) ev_inner a (inner_reads p b q c)

  pub ev_holding : Evers (λ (a : A). holding name (C a))
  ev_holding = evs_after blanks (Inner name C) (ev_run is_blank) ev_inner

  pub sole_holding : Sole (λ (a : A). holding name (C a)) anything
  sole_holding =
      sole_after (Inner name C) blanks (Not is_blank) anything
      (λ t at w z l g. leads_sharp is_blank (bytes ">") (Inner name C t) refl (inner_leads t) at w z l) (sure_run is_blank) sole_inner

  pub holding_element : Element (λ (a : A). tag name · holding name (C a)) name
  holding_element =
      record {
        leads = λ a. tag_leads name (holding name (C a));
        ever = evs_after (tag name) (λ (a : A). holding name (C a)) (ev_these (bytes "<" ++ name)) ev_holding;
        sole =
            sole_after (λ (a : A). holding name (C a)) (tag name) anything anything (λ a at w z l g. tt) (sure_these (bytes "<" ++ name) anything) sole_holding;
      }

-- ---- an element that may have no child: nothing a says that a is none

abbrev pub Inside? : {A : Type 0} → List ℕ → (A → Type 0) → (A → Form) → A → Form
Inside? name nothing C a = given (nothing a) (lit "/>") ∪ Inner name C a

-- one value says that there is nothing, and no other does
pub record Void {A : Type 0} (nothing : A → Type 0) : Type 0 where
  pub none : A
  pub is : nothing none
  pub only : (a : A) → nothing a → a ≡ none

module _ {A : Type 0} {C : A → Form} (name : List ℕ) (facts : Children C) {nothing : A → Type 0} (v : Void nothing) where
  abbrev Empty : A → Form
  Empty a = given (nothing a) (lit "/>")

  empty_apart : (a b : A) (at : ℕ) (w x z y : List ℕ) → Empty a at w → Inner name C b at x → anything z → x ++ z ≡ w ++ y → ⊥
  empty_apart = apart_leads Empty (Inner name C) (bytes "/") (bytes ">") (λ a at w l. (bytes ">", l.1)) (inner_leads name facts) refl

  empty_reads : {s : List ℕ} {x y : Step} → Passes (lit "/>") anything s x y → Reads Empty anything s x y
  empty_reads e = as_reads {M = Empty} (λ u at w. v.none) (λ u at w l. (v.is, l)) (λ a at w l. (tt, l.1, v.only a l.0)) e

  inside_sharp : (a : A) (at : ℕ) (w z : List ℕ) → Inside? name nothing C a at w → Not is_blank (w ++ z)
  inside_sharp a at w z (inl l) = subst (λ (u : List ℕ). Not is_blank (u ++ z)) (sym l.1) refl
  inside_sharp a at w z (inr l) = leads_sharp is_blank (bytes ">") (Inner name C a) refl (inner_leads name facts a) at w z l

  ev_inside : Evers (Inside? name nothing C)
  ev_inside at = (v.none, bytes "/>", inl (v.is, refl))

  holding?_reads : {s : List ℕ} {x h r : Step} → Passes blanks (Not is_blank) s x h → Reads (Inside? name nothing C) anything s h r
      → Reads (λ (a : A). holding? name (nothing a) (C a)) anything s x r
  holding?_reads p q = pass_then {M = Inside? name nothing C} (λ a at w z l g. inside_sharp a at w z l) ev_inside p q

  pub holding?_failed : {s : List ℕ} {x h : Step} (k : Stuck) → Passes blanks (Not is_blank) s x h → h ≡ Err k
      → Reads (λ (a : A). holding? name (nothing a) (C a)) anything s x h
  holding?_failed k p e = holding?_reads p (failed k e)

  module _ {s : List ℕ} {x : Step} {at far : ℕ} (b : Passes blanks (Not is_blank) s x (going at far)) where
    pub holding?_short : {n f : ℕ} → Passes (lit "/>") anything s (going at far) (going n f)
        → Reads (λ (a : A). holding? name (nothing a) (C a)) anything s x (going n f)
    holding?_short e = holding?_reads b (either_first empty_apart (empty_reads e))

    pub holding?_long : {k : ℕ} {y u w r : Step} → Passes (lit "/>") anything s (going at far) (stuck k) → Passes (lit ">") anything s (going at k) y
        → Passes blanks (Not is_blank) s y u → Reads C (Starts closing) s u w → Passes (close name) anything s w r
        → Reads (λ (a : A). holding? name (nothing a) (C a)) anything s x r
    holding?_long e p i q c = holding?_reads b (either_second empty_apart (empty_reads e) (inner_reads name facts p i q c))

  pub ev_holding? : Evers (λ (a : A). holding? name (nothing a) (C a))
  ev_holding? = evs_after blanks (Inside? name nothing C) (ev_run is_blank) ev_inside

  pub holding?_element : Element (λ (a : A). tag name · holding? name (nothing a) (C a)) name
  holding?_element =
      record {
        leads = λ a. tag_leads name (holding? name (nothing a) (C a));
        ever =
            evs_after (tag name) (λ (a : A). holding? name (nothing a) (C a)) (ev_these (bytes "<" ++ name)) ev_holding?;
        sole =
            sole_after (λ (a : A). holding? name (nothing a) (C a)) (tag name) anything anything (λ a at w z l g. tt) (sure_these (bytes "<" ++ name) anything)
            (sole_after (Inside? name nothing C) blanks (Not is_blank) anything (λ a at w z l g. inside_sharp a at w z l) (sure_run is_blank)
            (sole_or Empty (Inner name C) anything empty_apart
            (λ a b at w x z y p q f g e. (v.only a p.0 ∙ sym (v.only b q.0), p.1 ∙ sym q.1)) (sole_inner name facts)));
      }

-- ---- after its tag: an element from the rest of it
pub tag_then : {A : Type 0} {s name : List ℕ} {G : A → Form} {x y r : Step} → Evers G → Passes (tag name) anything s x y → Reads G anything s y r
    → Reads (λ (a : A). tag name · G a) anything s x r
tag_then {G = G} ever p q = pass_then {M = G} (λ a at w z l g. tt) ever p q

-- ---- a child, and the blanks after it

pub child_reads : {A : Type 0} {E : A → Form} {s : List ℕ} {x y r : Step} → Reads E anything s x y → Passes blanks (Not is_blank) s y r
    → Reads (child E) (Not is_blank) s x r
child_reads a b = then_pass (λ at w z l g. tt) (ev_run is_blank) a b

module _ {A : Type 0} {E : A → Form} {name : List ℕ} (e : Element E name) where
  pub child_leads : (a : A) → Leads (bytes "<" ++ name) (child E a)
  child_leads a = leads_seq (bytes "<" ++ name) (E a) blanks (e.leads a)

  pub child_ever : Evers (child E)
  child_ever = evs_then E blanks e.ever (ev_run is_blank)

  pub child_sole : Sole (child E) (Not is_blank)
  child_sole = sole_then E blanks anything (Not is_blank) (λ at w z l g. tt) e.sole (sure_run is_blank)

module _ {A : Type 0} {E : A → Form} {name : List ℕ} (e : Element E name) (l : List (List ℕ)) (b : StandsBefore name l) where
  abbrev Item : A → Form
  Item = child E

  item_by : LeadsBy whole (bytes "<" ++ name) Item
  item_by = leads_by (bytes "<" ++ name) Item (child_leads e)

  under : (z : List ℕ) → Starts l z → Not is_blank z
  under = starts_sharp is_blank l b.sharps

  tagged_sharp : sharp is_blank ((bytes "<" ++ name) ∷ l) ≡ true
  tagged_sharp = b.sharps

  pub optional_starts : (o : Option A) (at : ℕ) (w z : List ℕ) → maybe Item o at w → Starts l z → Starts ((bytes "<" ++ name) ∷ l) (w ++ z)
  optional_starts = maybe_starts whole (bytes "<" ++ name) Item item_by l

  pub items_starts : (x : List A) (at : ℕ) (w z : List ℕ) → each Item x at w → Starts l z → Starts ((bytes "<" ++ name) ∷ l) (w ++ z)
  items_starts = each_starts whole (bytes "<" ++ name) Item item_by l

  items_sharp : (x : List A) (at : ℕ) (w z : List ℕ) → each Item x at w → Starts l z → Not is_blank (w ++ z)
  items_sharp x at w z d n = starts_sharp is_blank ((bytes "<" ++ name) ∷ l) tagged_sharp (w ++ z) (items_starts x at w z d n)

  item_apart : (a : A) (at : ℕ) (w y : List ℕ) → Item a at w → Starts l (w ++ y) → ⊥
  item_apart = not_there whole (bytes "<" ++ name) Item item_by l b.clash

  item_long : (a : A) (at : ℕ) (w : List ℕ) → Item a at w → 0 < length w
  item_long a = leads_long 60 name (Item a) (child_leads e a)

  module _ {s : List ℕ} where
    -- one that may be missing
    pub optional_reads : {x r : Step} → Tried Item (Not is_blank) s x r → Reads (maybe Item) (Starts l) s x r
    optional_reads t = skip_tried item_apart under t

    -- any number
    pub items_stop : {at far k : ℕ} → Reads Item (Not is_blank) s (going at far) (stuck k) → Reads (each Item) (Starts l) s (going at far) (going at k)
    items_stop r = stop items_sharp item_apart r

    pub items_more : {at far n f m g : ℕ} → Reads Item (Not is_blank) s (going at far) (going n f) → Reads (each Item) (Starts l) s (going n f) (going m g)
        → Reads (each Item) (Starts l) s (going at far) (going m g)
    items_more r t = more items_sharp item_apart r t

    pub item_onwards : {at far n f : ℕ} → Reads Item (Not is_blank) s (going at far) (going n f) → (at < n) × (n ≤ length s)
    item_onwards r = onwards item_long r

    -- one or more
    pub some_reads : {x y r : Step} → Reads Item (Not is_blank) s x y → Reads (each Item) (Starts l) s y r → Reads (each⁺ Item) (Starts l) s x r
    some_reads p q =
        as_reads {L = λ (a : A × List A). Item a.0 · each Item a.1} {M = each⁺ Item} (λ a at w. a.0 ∷ a.1) (λ a at w d. d) back
        (seq {L = Item} {M = each Item} items_sharp (λ at. ([], [], refl)) p q)
      where
        back : (x : List A) (at : ℕ) (w : List ℕ) → each⁺ Item x at w → (a : A × List A) × (Item a.0 · each Item a.1) at w × (x ≡ a.0 ∷ a.1)
        back [] at w d = absurd d
        back (a ∷ x) at w d = ((a, x), d, refl)

  pub sole_optional : Sole (maybe Item) (Starts l)
  sole_optional = sole_maybe Item (Starts l) item_apart (sole_before Item (Not is_blank) (Starts l) under (child_sole e))

  pub sole_items : Sole (each Item) (Starts l)
  sole_items = sole_each Item (Not is_blank) (Starts l) items_sharp item_apart (child_sole e)

  pub sole_some_items : Sole (each⁺ Item) (Starts l)
  sole_some_items = sole_some Item (Not is_blank) (Starts l) items_sharp item_apart (child_sole e)

  pub ev_some : Evers (each⁺ Item)
  ev_some at =
      let v = evs_then Item (these []) (child_ever e) (ev_these []) at in
      (v.0 ∷ [], v.1, v.2)

  pub some_starts : (x : List A) (at : ℕ) (w z : List ℕ) → each⁺ Item x at w → Starts ((bytes "<" ++ name) ∷ []) (w ++ z)
  some_starts [] at w z d = absurd d
  some_starts (a ∷ x) at w z d =
      leads_starts (bytes "<" ++ name) (Item a · each Item x) (leads_seq (bytes "<" ++ name) (Item a) (each Item x) (child_leads e a)) at w z d

-- ---- an attribute that may be missing, before one of the words behind blanks

module _ (name : List ℕ) (named : sharp is_blank (name ∷ []) ≡ true) (l : List (List ℕ)) (other : clashes name l ≡ true) where
  pub attribute_optional : {s : List ℕ} {x r : Step} → Tried (attribute name) anything s x r → Reads (maybe (attribute name)) (StartsBy skip l) s x r
  attribute_optional t = skip_tried (not_there skip name (attribute name) (attribute_leads name named) l other) (λ z n. tt) t

  pub attribute_starts : (o : Option (Text ℕ)) (at : ℕ) (w z : List ℕ) → maybe (attribute name) o at w → StartsBy skip l z → StartsBy skip (name ∷ l) (w ++ z)
  attribute_starts = maybe_starts skip name (attribute name) (attribute_leads name named) l

  pub sole_attribute_optional : Sole (maybe (attribute name)) (StartsBy skip l)
  sole_attribute_optional =
      sole_maybe (attribute name) (StartsBy skip l) (not_there skip name (attribute name) (attribute_leads name named) l other)
      (sole_before (attribute name) anything (StartsBy skip l) (λ z n. tt) (sole_attribute name named))
