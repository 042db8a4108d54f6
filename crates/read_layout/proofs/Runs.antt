-- Runs of children: what they start with before what follows, and their readings one after another. Laws for any elements.
use Prim.Native.Nat.{ℕ, max}
use mathlib.Core.Path.{◌≡◌, sym, ap, ◌∙◌, subst}
use mathlib.Core.Bool.{true}
use mathlib.Core.List.{List, [], ◌∷◌, ◌++◌, append_assoc}
use Rattle.paper.specs.Bytes.{bytes, is_blank}
use Rattle.paper.specs.Form.{Form, ◌·◌, maybe, each, each⁺}
use Rattle.paper.specs.Layout.{blanks, tag, child, child?, holding}
use Rattle.paper.proofs.Forms.{Evers, evs_both, evs_maybe, evs_each}
use Rattle.std.specs.Prelude.{Ok, Err}
use Rattle.read_steps.specs.declared.Cursor.{Cursor}
use Rattle.read_steps.specs.declared.Stuck.{Stuck}
use Rattle.read_steps.specs.Reads.{Step, Reads, Passes, Tried, Followed, chosen}
use Rattle.read_steps.specs.Follow.{Not, Starts, StandsBefore, anything, closing, clashes, sharp}
use Rattle.read_steps.proofs.Steps.{before, seq, skip_tried, failed}
use Rattle.read_steps.proofs.Fronts.{starts_sharp, leads_starts, Leads, leads_by, whole, maybe_starts, not_there}
use Rattle.read_tags.proofs.Tags.{Element, Children, holding_element, holding_reads, tag_then, child_leads, child_ever, child_sole, child_reads, sole_optional, sole_items, sole_some_items, optional_starts, items_starts, some_starts, ev_some, ev_holding}
use Rattle.read_steps.proofs.Soles.{Sole, sole_seq, sole_maybe, sole_before}
use Rattle.read_layout.specs.Parts.{Enters, Leaves}

-- texts of C, before what starts with one of g, start with one of k and are of one value; and C has a text
pub record Run {A : Type 0} (C : A → Form) (k g : List (List ℕ)) : Type 0 where
  pub starts : (a : A) (at : ℕ) (w z : List ℕ) → C a at w → Starts g z → Starts k (w ++ z)
  pub ever : Evers C
  pub sole : Sole C (Starts g)

module _ {A : Type 0} {E : A → Form} {name : List ℕ} (e : Element E name) (g : List (List ℕ)) where
  -- one child
  pub run_one : sharp is_blank g ≡ true → Run (child E) ((bytes "<" ++ name) ∷ []) g
  run_one p =
      record {
        starts = λ a at w z d n. leads_starts (bytes "<" ++ name) (child E a) (child_leads e a) at w z d;
        ever = child_ever e;
        sole = sole_before (child E) (Not is_blank) (Starts g) (starts_sharp is_blank g p) (child_sole e);
      }

  -- one child or none
  pub run_maybe : StandsBefore name g → Run (child? E) ((bytes "<" ++ name) ∷ g) g
  run_maybe b = record { starts = optional_starts e g b; ever = evs_maybe (child E); sole = sole_optional e g b }

  -- any number of children
  pub run_each : StandsBefore name g → Run (each (child E)) ((bytes "<" ++ name) ∷ g) g
  run_each b = record { starts = items_starts e g b; ever = evs_each (child E); sole = sole_items e g b }

  -- one or more
  pub run_some : StandsBefore name g → Run (each⁺ (child E)) ((bytes "<" ++ name) ∷ []) g
  run_some b = record { starts = λ x at w z d n. some_starts e g b x at w z d; ever = ev_some e g b; sole = sole_some_items e g b }

-- one run after another
module _ {A B : Type 0} {C : A → Form} {D : B → Form} {k m g : List (List ℕ)} (c : Run C k m) (d : Run D m g) where
  pub run_seq : Run (λ (p : A × B). C p.0 · D p.1) k g
  run_seq =
      record {
        starts =
            λ p at w z x n.
            subst (Starts k) (sym (ap (λ (u : List ℕ). u ++ z) x.2 ∙ append_assoc x.0 x.1 z))
            (c.starts p.0 at x.0 (x.1 ++ z) x.3 (d.starts p.1 _ x.1 z x.4 n));
        ever = evs_both C D c.ever d.ever;
        sole = sole_seq C D (Starts m) (Starts g) d.starts c.sole d.sole;
      }

  pub run_reads : {s : List ℕ} {x y r : Step} → Reads C (Starts m) s x y → Reads D (Starts g) s y r
      → Reads (λ (p : A × B). C p.0 · D p.1) (Starts g) s x r
  run_reads p q = seq {L = C} {M = D} d.starts d.ever p q

-- one child, before what starts with no blank
pub one_reads : {A : Type 0} {E : A → Form} {s : List ℕ} {x r : Step} (g : List (List ℕ)) → sharp is_blank g ≡ true
    → Reads (child E) (Not is_blank) s x r → Reads (child E) (Starts g) s x r
one_reads g p e = before (starts_sharp is_blank g p) e

-- a run that starts with no blank may stand between tags
pub run_children : {A : Type 0} {C : A → Form} {k : List (List ℕ)} → Run C k closing → sharp is_blank k ≡ true → Children C
run_children {k = k} c p =
    record { sharp_before = λ a at w z d n. starts_sharp is_blank k p (w ++ z) (c.starts a at w z d n); ever = c.ever; sole = c.sole }

-- a whole element, and the blanks after it
module _ {A : Type 0} {C : A → Form} {k : List (List ℕ)} (name : List ℕ) (c : Run C k closing) (p : sharp is_blank k ≡ true) where
  abbrev pub Whole : A → Form
  Whole a = tag name · holding name (C a)

  pub whole_element : Element Whole name
  whole_element = holding_element name (run_children c p)

  pub whole_reads : {s : List ℕ} {x a b d r : Step} → Passes (tag name) anything s x a → Enters s a b → Reads C (Starts closing) s b d
      → Leaves name s d r → Reads (child Whole) (Not is_blank) s x r
  whole_reads t i q l =
      child_reads (tag_then {G = λ (a : A). holding name (C a)} (ev_holding name (run_children c p)) t
      (holding_reads name (run_children c p) i.before i.opens i.after q l.closes)) l.after

-- ---- what follows a tag, and the blanks after it
pub tagged_reads : {A : Type 0} {s name : List ℕ} {G : A → Form} {x y r : Step} → Evers G → Passes (tag name) anything s x y → Followed G blanks s y r
    → Reads (child (λ (a : A). tag name · G a)) (Not is_blank) s x r
tagged_reads {G = G} ever t f = child_reads (tag_then {G = G} ever t f.reads) f.passes

-- ---- a run that may be missing: all its texts start with one word
module _ {A : Type 0} (C : A → Form) (k : List ℕ) (leads : (a : A) → Leads k (C a)) (g : List (List ℕ)) (other : clashes k g ≡ true) where
  pub run_optional : Sole C (Starts g) → Run (maybe C) (k ∷ g) g
  run_optional s =
      record {
        starts = maybe_starts whole k C (leads_by k C leads) g;
        ever = evs_maybe C;
        sole = sole_maybe C (Starts g) (not_there whole k C (leads_by k C leads) g other) s;
      }

  pub optional_run_reads : {s : List ℕ} {x r : Step} → Tried C (Starts g) s x r → Reads (maybe C) (Starts g) s x r
  optional_run_reads t = skip_tried (not_there whole k C (leads_by k C leads) g other) (λ z n. n) t

-- ---- a trial from a step that did not fail doesn't fail
pub tried_on : {A : Type 0} {L : A → Form} {F : List ℕ → Type 0} {s : List ℕ} {c : Cursor} {r : Step} → Tried L F s (Ok c) r
    → (d : Cursor) × (r ≡ Ok d)
tried_on {c = c} {r = r} t = go t.step t.is
  where
    go : (y : Step) → r ≡ chosen y (Ok c) → (d : Cursor) × (r ≡ Ok d)
    go (Ok d) e = (d, e)
    go (Err k) e = (record { next = c.next; far = max k.far c.far }, e)

-- ---- a step that failed passes through

pub enters_failed : {s : List ℕ} {x : Step} (k : Stuck) → x ≡ Err k → Enters s x x
enters_failed {s} {x} k h = record { head = x; open_at = x; before = failed k h; opens = failed k h; after = failed k h }

pub leaves_failed : {name s : List ℕ} {x : Step} (k : Stuck) → x ≡ Err k → Leaves name s x x
leaves_failed {name} {s} {x} k h = record { closed = x; closes = failed k h; after = failed k h }

pub followed_failed : {A : Type 0} {L : A → Form} {P : Form} {s : List ℕ} {x : Step} (k : Stuck) → x ≡ Err k → Followed L P s x x
followed_failed {x = x} k h = record { step = x; reads = failed k h; passes = failed k h }

-- ---- a loop over elements of one name: from here on, whatever is read, it is read from the start
abbrev pub Onward : {A : Type 0} → (A → Form) → List (List ℕ) → List ℕ → Step → Cursor → Type 0
Onward E l s x c = (d : Cursor) → Reads (each (child E)) (Starts l) s (Ok c) (Ok d) → Reads (each (child E)) (Starts l) s x (Ok d)
