-- Each element of the listing, from the readings of its parts: what the proofs of the functions cite. A few lines for each.
use Prim.Native.Nat.{ℕ}
use mathlib.Core.Path.{◌≡◌, refl}
use mathlib.Core.Option.{Option, none}
use mathlib.Core.List.{List, [], ◌∷◌}
use Rattle.paper.specs.Bytes.{bytes, is_blank}
use Rattle.paper.specs.Form.{Form, ◌·◌, each, each⁺}
use Rattle.paper.specs.Tree.{Text, Qualifier, Feature, Table}
use Rattle.paper.specs.Layout.{tag, leaf, child, child?, holding?, qualifier, quals, feature, table, other_ids}
use Rattle.paper.proofs.Forms.{Evers}
use Rattle.read_steps.specs.Reads.{Step, Reads, Passes, Tried}
use Rattle.read_steps.specs.Follow.{Not, Starts, StandsBefore, anything, closing}
use Rattle.read_steps.proofs.Steps.{as_reads}
use Rattle.read_tags.proofs.Tags.{Element, Children, leaf_element, holding?_element, ev_holding?, Void, optional_reads, some_reads}
use Rattle.read_steps.proofs.Soles.{sole_as}
use Rattle.read_layout.specs.Parts.{Enters, Leaves, Held, held}
use Rattle.read_layout.proofs.Runs.{Run, run_one, run_maybe, run_each, run_some, run_seq, run_reads, one_reads, run_children, Whole, whole_element, whole_reads}

-- ---- the same element with another value

module _ {A B : Type 0} {L : A → Form} {M : B → Form} {name : List ℕ} (to : A → B) (of : B → A)
    (there : (a : A) (at : ℕ) (w : List ℕ) → L a at w → M (to a) at w) (back : (b : B) (at : ℕ) (w : List ℕ) → M b at w → L (of b) at w)
    (same : (b : B) → b ≡ to (of b)) where
  pub element_as : Element L name → Element M name
  element_as e =
      record {
        leads = λ b at w d. e.leads (of b) at w (back b at w d);
        ever = λ at. let v = e.ever at in (to v.0, v.1, there v.0 at v.1 v.2);
        sole = sole_as L M anything (λ a at. to a) of (λ b at w d. (back b at w d, same b)) e.sole;
      }

-- a child that is another value's
pub child_as : {A B : Type 0} {L : A → Form} {M : B → Form} {F : List ℕ → Type 0} (to : A → B) (of : B → A)
    → ((a : A) (at : ℕ) (w : List ℕ) → child L a at w → child M (to a) at w) → ((b : B) (at : ℕ) (w : List ℕ) → child M b at w → child L (of b) at w)
    → ((b : B) → b ≡ to (of b)) → {s : List ℕ} {x y : Step} → Reads (child L) F s x y → Reads (child M) F s x y
child_as {L = L} {M = M} to of there back same e =
    as_reads {L = child L} {M = child M} (λ a at w. to a) there (λ b at w d. (of b, back b at w d, same b)) e

-- ---- INSDQualifier

abbrev QualifierParts : Text ℕ × Option (Text ℕ) → Form
QualifierParts p = child (leaf (bytes "INSDQualifier_name")) p.0 · child? (leaf (bytes "INSDQualifier_value")) p.1

value_last : StandsBefore (bytes "INSDQualifier_value") closing
value_last = record { clash = refl; sharps = refl }

qualifier_run : Run QualifierParts (bytes "<INSDQualifier_name" ∷ []) closing
qualifier_run = run_seq (run_one (leaf_element (bytes "INSDQualifier_name")) _ refl) (run_maybe (leaf_element (bytes "INSDQualifier_value")) closing value_last)

pub qualifier_element : Element qualifier (bytes "INSDQualifier")
qualifier_element =
    element_as (λ p. record { name = p.0; value = p.1 }) (λ q. (q.name, q.value)) (λ p at w d. d) (λ q at w d. d) (λ q. refl)
    (whole_element (bytes "INSDQualifier") qualifier_run refl)

module _ {s : List ℕ} where
  pub qualifier_reads : {x a b c d r : Step} → Passes (tag (bytes "INSDQualifier")) anything s x a → Enters s a b
      → Reads (child (leaf (bytes "INSDQualifier_name"))) (Not is_blank) s b c → Tried (child (leaf (bytes "INSDQualifier_value"))) (Not is_blank) s c d
      → Leaves (bytes "INSDQualifier") s d r → Reads (child qualifier) (Not is_blank) s x r
  qualifier_reads t i n v l =
      child_as (λ p. record { name = p.0; value = p.1 }) (λ q. (q.name, q.value)) (λ p at w d. d) (λ q at w d. d) (λ q. refl)
      (whole_reads (bytes "INSDQualifier") qualifier_run refl t i
      (run_reads (run_one (leaf_element (bytes "INSDQualifier_name")) _ refl) (run_maybe (leaf_element (bytes "INSDQualifier_value")) closing value_last)
      (one_reads _ refl n) (optional_reads (leaf_element (bytes "INSDQualifier_value")) closing value_last v)) l)

-- ---- INSDFeature_quals

pub qualifiers_last : StandsBefore (bytes "INSDQualifier") closing
qualifiers_last = record { clash = refl; sharps = refl }

pub qualifiers_facts : Children (each (child qualifier))
qualifiers_facts = run_children (run_each qualifier_element closing qualifiers_last) refl

pub no_qualifiers : Void {A = List (Qualifier ℕ)} (λ l. l ≡ [])
no_qualifiers = record { none = []; is = refl; only = λ l e. e }

pub quals_element : Element quals (bytes "INSDFeature_quals")
quals_element = holding?_element (bytes "INSDFeature_quals") qualifiers_facts no_qualifiers

pub ev_quals : Evers (λ (l : List (Qualifier ℕ)). holding? (bytes "INSDFeature_quals") (l ≡ []) (each (child qualifier) l))
ev_quals = ev_holding? (bytes "INSDFeature_quals") qualifiers_facts no_qualifiers

-- ---- INSDFeature

abbrev FeatureParts : (Text ℕ × Text ℕ) × Option (List (Qualifier ℕ)) → Form
FeatureParts p =
    child (leaf (bytes "INSDFeature_key")) p.0.0 · child (leaf (bytes "INSDFeature_location")) p.0.1 · child? quals p.1

quals_last : StandsBefore (bytes "INSDFeature_quals") closing
quals_last = record { clash = refl; sharps = refl }

key_run : Run (child (leaf (bytes "INSDFeature_key"))) (bytes "<INSDFeature_key" ∷ []) (bytes "<INSDFeature_location" ∷ [])
key_run = run_one (leaf_element (bytes "INSDFeature_key")) _ refl

location_run : Run (child (leaf (bytes "INSDFeature_location"))) (bytes "<INSDFeature_location" ∷ []) (bytes "<INSDFeature_quals" ∷ closing)
location_run = run_one (leaf_element (bytes "INSDFeature_location")) _ refl

quals_run : Run (child? quals) (bytes "<INSDFeature_quals" ∷ closing) closing
quals_run = run_maybe quals_element closing quals_last

feature_run : Run FeatureParts (bytes "<INSDFeature_key" ∷ []) closing
feature_run = run_seq (run_seq key_run location_run) quals_run

abbrev to_feature : (Text ℕ × Text ℕ) × Option (List (Qualifier ℕ)) → Feature ℕ
to_feature p = record { key = p.0.0; location = p.0.1; quals = p.1 }

abbrev of_feature : Feature ℕ → (Text ℕ × Text ℕ) × Option (List (Qualifier ℕ))
of_feature f = ((f.key, f.location), f.quals)

pub feature_element : Element feature (bytes "INSDFeature")
feature_element = element_as to_feature of_feature (λ p at w d. d) (λ f at w d. d) (λ f. refl) (whole_element (bytes "INSDFeature") feature_run refl)

module _ {s : List ℕ} where
  pub feature_reads : {x a b c d e r : Step} → Passes (tag (bytes "INSDFeature")) anything s x a → Enters s a b
      → Reads (child (leaf (bytes "INSDFeature_key"))) (Not is_blank) s b c → Reads (child (leaf (bytes "INSDFeature_location"))) (Not is_blank) s c d
      → Tried (child quals) (Not is_blank) s d e → Leaves (bytes "INSDFeature") s e r → Reads (child feature) (Not is_blank) s x r
  feature_reads t i k o q l =
      child_as to_feature of_feature (λ p at w d. d) (λ f at w d. d) (λ f. refl)
      (whole_reads (bytes "INSDFeature") feature_run refl t i
      (run_reads (run_seq key_run location_run) quals_run (run_reads key_run location_run (one_reads _ refl k) (one_reads _ refl o))
      (optional_reads quals_element closing quals_last q)) l)

-- ---- INSDSeq_feature-table

pub features_last : StandsBefore (bytes "INSDFeature") closing
features_last = record { clash = refl; sharps = refl }

table_run : Run (each⁺ (child feature)) (bytes "<INSDFeature" ∷ []) closing
table_run = run_some feature_element closing features_last

pub table_element : Element table (bytes "INSDSeq_feature-table")
table_element =
    let e = whole_element (bytes "INSDSeq_feature-table") table_run refl in
    record {
      leads = λ t at w d. e.leads t.features at w d.1;
      ever = λ at. let v = e.ever at in (record { place = at; features = v.0 }, v.1, (refl, v.2));
      sole =
          sole_as (Whole (bytes "INSDSeq_feature-table") table_run refl) table anything (λ x at. record { place = at; features = x }) (λ t. t.features)
          (λ t at w d. (d.1, λ i. record { place = d.0 i; features = t.features })) e.sole;
    }

module _ {s : List ℕ} where
  pub table_reads : {x a b c d r : Step} → Passes (tag (bytes "INSDSeq_feature-table")) anything s x a → Enters s a b
      → Reads (child feature) (Not is_blank) s b c → Reads (each (child feature)) (Starts closing) s c d
      → Leaves (bytes "INSDSeq_feature-table") s d r → Reads (child table) (Not is_blank) s x r
  table_reads t i f q l =
      as_reads {L = child (Whole (bytes "INSDSeq_feature-table") table_run refl)} {M = child table} (λ x at w. record { place = at; features = x })
      (λ x at w d. (d.0, d.1, d.2, (refl, d.3), d.4))
      (λ x at w d. (x.features, (d.0, d.1, d.2, d.3.1, d.4), λ i. record { place = d.3.0 i; features = x.features }))
      (whole_reads (bytes "INSDSeq_feature-table") table_run refl t i (some_reads feature_element closing features_last f q) l)

-- ---- INSDSeq_other-seqids

id_last : StandsBefore (bytes "INSDSeqid") closing
id_last = record { clash = refl; sharps = refl }

pub ids_facts : Children (child? (leaf (bytes "INSDSeqid")))
ids_facts = run_children (run_maybe (leaf_element (bytes "INSDSeqid")) closing id_last) refl

pub no_id : Void {A = Option (Text ℕ)} (λ t. t ≡ none)
no_id = record { none = none; is = refl; only = λ t e. e }

pub ids_element : Element other_ids (bytes "INSDSeq_other-seqids")
ids_element = holding?_element (bytes "INSDSeq_other-seqids") ids_facts no_id

pub ev_ids : Evers (λ (t : Option (Text ℕ)). holding? (bytes "INSDSeq_other-seqids") (t ≡ none) (child? (leaf (bytes "INSDSeqid")) t))
ev_ids = ev_holding? (bytes "INSDSeq_other-seqids") ids_facts no_id

pub id_reads : {s : List ℕ} {x r : Step} → Tried (child (leaf (bytes "INSDSeqid"))) (Not is_blank) s x r → Reads (child? (leaf (bytes "INSDSeqid"))) (Starts closing) s x r
id_reads t = optional_reads (leaf_element (bytes "INSDSeqid")) closing id_last t

-- ---- INSDSeq

abbrev residued : List (List ℕ)
residued = bytes "<INSDSeq_sequence" ∷ []

abbrev tabled : List (List ℕ)
tabled = bytes "<INSDSeq_feature-table" ∷ residued

abbrev identified : List (List ℕ)
identified = bytes "<INSDSeq_other-seqids" ∷ tabled

abbrev divided : List (List ℕ)
divided = bytes "<INSDSeq_division" ∷ []

abbrev typed : List (List ℕ)
typed = bytes "<INSDSeq_moltype" ∷ []

table_next_lem : StandsBefore (bytes "INSDSeq_feature-table") residued
table_next_lem = record { clash = refl; sharps = refl }

ids_next : StandsBefore (bytes "INSDSeq_other-seqids") tabled
ids_next = record { clash = refl; sharps = refl }

length_run : Run (child (leaf (bytes "INSDSeq_length"))) (bytes "<INSDSeq_length" ∷ []) typed
length_run = run_one (leaf_element (bytes "INSDSeq_length")) _ refl

type_run : Run (child (leaf (bytes "INSDSeq_moltype"))) typed divided
type_run = run_one (leaf_element (bytes "INSDSeq_moltype")) _ refl

division_run : Run (child (leaf (bytes "INSDSeq_division"))) divided identified
division_run = run_one (leaf_element (bytes "INSDSeq_division")) _ refl

ids_run : Run (child? other_ids) identified tabled
ids_run = run_maybe ids_element tabled ids_next

tables_run : Run (child? table) tabled residued
tables_run = run_maybe table_element residued table_next_lem

residues_run : Run (child (leaf (bytes "INSDSeq_sequence"))) residued closing
residues_run = run_one (leaf_element (bytes "INSDSeq_sequence")) _ refl

abbrev HeldParts : ((((Text ℕ × Text ℕ) × Text ℕ) × Option (Option (Text ℕ))) × Option (Table ℕ)) × Text ℕ → Form
HeldParts p =
    child (leaf (bytes "INSDSeq_length")) p.0.0.0.0.0
    · child (leaf (bytes "INSDSeq_moltype")) p.0.0.0.0.1
    · child (leaf (bytes "INSDSeq_division")) p.0.0.0.1
    · child? other_ids p.0.0.1
    · child? table p.0.1
    · child (leaf (bytes "INSDSeq_sequence")) p.1

held_run : Run HeldParts (bytes "<INSDSeq_length" ∷ []) closing
held_run = run_seq (run_seq (run_seq (run_seq (run_seq length_run type_run) division_run) ids_run) tables_run) residues_run

abbrev to_held : ((((Text ℕ × Text ℕ) × Text ℕ) × Option (Option (Text ℕ))) × Option (Table ℕ)) × Text ℕ → Held
to_held p =
    record {
      declared = p.0.0.0.0.0;
      moltype = p.0.0.0.0.1;
      division = p.0.0.0.1;
      other_ids = p.0.0.1;
      table = p.0.1;
      residues = p.1;
    }

abbrev of_held : Held → ((((Text ℕ × Text ℕ) × Text ℕ) × Option (Option (Text ℕ))) × Option (Table ℕ)) × Text ℕ
of_held h = (((((h.declared, h.moltype), h.division), h.other_ids), h.table), h.residues)

pub held_element : Element held (bytes "INSDSeq")
held_element = element_as to_held of_held (λ p at w d. d) (λ f at w d. d) (λ f. refl) (whole_element (bytes "INSDSeq") held_run refl)

module _ {s : List ℕ} where
  pub held_reads : {x a b c d e f g h r : Step} → Passes (tag (bytes "INSDSeq")) anything s x a → Enters s a b
      → Reads (child (leaf (bytes "INSDSeq_length"))) (Not is_blank) s b c → Reads (child (leaf (bytes "INSDSeq_moltype"))) (Not is_blank) s c d
      → Reads (child (leaf (bytes "INSDSeq_division"))) (Not is_blank) s d e → Tried (child other_ids) (Not is_blank) s e f
      → Tried (child table) (Not is_blank) s f g → Reads (child (leaf (bytes "INSDSeq_sequence"))) (Not is_blank) s g h
      → Leaves (bytes "INSDSeq") s h r → Reads (child held) (Not is_blank) s x r
  held_reads t i n m d o u q l =
      child_as to_held of_held (λ p at w d. d) (λ f at w d. d) (λ f. refl)
      (whole_reads (bytes "INSDSeq") held_run refl t i
      (run_reads (run_seq (run_seq (run_seq (run_seq length_run type_run) division_run) ids_run) tables_run) residues_run
      (run_reads (run_seq (run_seq (run_seq length_run type_run) division_run) ids_run) tables_run
      (run_reads (run_seq (run_seq length_run type_run) division_run) ids_run
      (run_reads (run_seq length_run type_run) division_run
      (run_reads length_run type_run (one_reads _ refl n) (one_reads _ refl m)) (one_reads _ refl d))
      (optional_reads ids_element tabled ids_next o)) (optional_reads table_element residued table_next_lem u)) (one_reads _ refl q)) l)
