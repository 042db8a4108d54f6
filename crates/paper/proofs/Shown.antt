-- Each text of a laid-out listing stands at its place in the listing, as it is written: the part shown of it is the stated stretch.
use Prim.Native.Nat.{ℕ, zero, suc, ◌+◌}
use native.Mathlib.Omega.{arith}
use mathlib.Core.Path.{◌≡◌, refl, sym, ap, ◌∙◌, subst}
use mathlib.Core.Bool.{Bool}
use mathlib.Core.Logic.{◌⊎◌, inl, inr}
use mathlib.Core.Option.{Option, none, some}
use mathlib.Core.List.{List, [], ◌∷◌, ◌++◌, append_assoc, append-nil}
use lib.ListN.{length, take, drop, length-append}
use lib.Seq.{take_at, drop_at}
use Rattle.paper.specs.Bytes.{bytes, is_printed, is_printed_or_high, raw}
use Rattle.paper.specs.Form.{Form, these, lit, ◌·◌, ◌∪◌, given, maybe, each, each⁺}
use Rattle.paper.specs.Lists.{◌∈◌, gather, present}
use Rattle.paper.specs.Tree.{Text, Spoken, Party, Identification, Heading, reference, application, Qualifier, Feature, Table, Sequence, Listing, features_in, features_of, listed, spoken_texts, party_texts, identification_texts, heading_texts, qualifier_texts, feature_texts, sequence_texts, attribute_texts, parties_texts, texts_of}
use Rattle.paper.specs.Layout.{blanks, gap, text, tag, close, attribute, content, leaf, spoken, child, child?, holding, holding?, identification, heading, party, qualifier, quals, feature, table, other_ids, inner, sequence, attributes, parties, root, doctype, LaidOut}
use Rattle.paper.specs.Demands.{StatedStretch}
use Rattle.paper.proofs.Lists.{of_append, in_first, in_second, in_gather}

-- the text t stands in the bytes w, which stand at `at`
record Standing (t : Text ℕ) (at : ℕ) (w : List ℕ) : Type 0 where
  before : List ℕ
  behind : List ℕ
  is : w ≡ before ++ (raw t.read ++ behind)
  place : t.place ≡ at + length before

module _ {t : Text ℕ} {at : ℕ} where
  in_left : {u : List ℕ} (v : List ℕ) → Standing t at u → Standing t at (u ++ v)
  in_left v s =
      record {
        before = s.before;
        behind = s.behind ++ v;
        is = ap (λ (x : List ℕ). x ++ v) s.is
            ∙ append_assoc s.before (raw t.read ++ s.behind) v
            ∙ ap (◌++◌ s.before) (append_assoc (raw t.read) s.behind v);
        place = s.place;
      }

  in_right : (u : List ℕ) {v : List ℕ} → Standing t (at + length u) v → Standing t at (u ++ v)
  in_right u s =
      record {
        before = u ++ s.before;
        behind = s.behind;
        is = ap (◌++◌ u) s.is ∙ sym (append_assoc u s.before (raw t.read ++ s.behind));
        place = s.place ∙ omega (arith, length-append u s.before);
      }

-- ---- forms

-- wherever bytes are of the form, each of these texts stands in them
record Holds (F : Form) (l : List (Text ℕ)) : Type 0 where
  has : (at : ℕ) (w : List ℕ) → F at w → (t : Text ℕ) → t ∈ l → Standing t at w

nothing : (F : Form) → Holds F []
nothing F = record { has = λ at w x t m. absurd m.1 }

-- one form and then another: the first holds texts, or the second, or both
first : (F G : Form) {l : List (Text ℕ)} → Holds F l → Holds (F · G) l
first F G f = record { has = λ at w x t m. subst (Standing t at) (sym x.2) (in_left x.1 (f.has at x.0 x.3 t m)) }

second : (F G : Form) {l : List (Text ℕ)} → Holds G l → Holds (F · G) l
second F G g = record { has = λ at w x t m. subst (Standing t at) (sym x.2) (in_right x.0 (g.has (at + length x.0) x.1 x.4 t m)) }

both : (F G : Form) (l k : List (Text ℕ)) → Holds F l → Holds G k → Holds (F · G) (l ++ k)
both F G l k f g = record { has = λ at w x t m. go at w x t (of_append l k t m) }
  where
    go : (at : ℕ) (w : List ℕ) → (F · G) at w → (t : Text ℕ) → (t ∈ l) ⊎ (t ∈ k) → Standing t at w
    go at w x t (inl m) = (first F G f).has at w x t m
    go at w x t (inr m) = (second F G g).has at w x t m

infixl 60 ◌◁◌ ◌▷◌ ◌⊗◌
abbrev ◌◁◌ : {F : Form} {l : List (Text ℕ)} → Holds F l → (G : Form) → Holds (F · G) l
◌◁◌ {F} f G = first F G f

abbrev ◌▷◌ : (F : Form) {G : Form} {l : List (Text ℕ)} → Holds G l → Holds (F · G) l
◌▷◌ F {G} g = second F G g

abbrev ◌⊗◌ : {F G : Form} {l k : List (Text ℕ)} → Holds F l → Holds G k → Holds (F · G) (l ++ k)
◌⊗◌ {F} {G} {l} {k} f g = both F G l k f g

module _ {A : Type 0} (F : A → Form) (f : A → List (Text ℕ)) (h : (a : A) → Holds (F a) (f a)) where
  in_each : (l : List A) → Holds (each F l) (gather f l)
  in_each [] = nothing _
  in_each (a ∷ l) = h a ⊗ in_each l

  in_each⁺ : (l : List A) → Holds (each⁺ F l) (gather f l)
  in_each⁺ [] = nothing _
  in_each⁺ (a ∷ l) = record { has = (h a ⊗ in_each l).has }

  in_maybe : (o : Option A) → Holds (maybe F o) (gather f (present o))
  in_maybe none = nothing _
  in_maybe (some a) = record { has = λ at w x t m. (h a).has at w x t (back (f a) t m) }
    where
      back : (l : List (Text ℕ)) (t : Text ℕ) → t ∈ (l ++ []) → t ∈ l
      back l t m = go (of_append l [] t m)
        where
          go : (t ∈ l) ⊎ (◌∈◌ {A = Text ℕ} t []) → t ∈ l
          go (inl k) = k
          go (inr k) = absurd k.1

-- of what may be missing, where it is one text
in_text? : (F : Text ℕ → Form) → ((t : Text ℕ) → Holds (F t) (t ∷ [])) → (o : Option (Text ℕ)) → Holds (maybe F o) (present o)
in_text? F h none = nothing _
in_text? F h (some t) = h t

-- ---- texts

one_text : (F : Form) (t : Text ℕ) → ((at : ℕ) (w : List ℕ) → F at w → Standing t at w) → Holds F (t ∷ [])
one_text F t h = record { has = go }
  where
    go : (at : ℕ) (w : List ℕ) → F at w → (u : Text ℕ) → u ∈ (t ∷ []) → Standing u at w
    go at w x u (zero, n) = subst (λ (y : Text ℕ). Standing y at w) (sym n) (h at w x)
    go at w x u (suc i, n) = absurd n

in_text : (allowed : ℕ → Bool) (t : Text ℕ) → Holds (text allowed t) (t ∷ [])
in_text allowed t =
    one_text (text allowed t) t
    (λ at w x. record { before = []; behind = []; is = x.2 ∙ sym (append-nil (raw t.read)); place = x.0 ∙ omega arith })

in_attribute : (name : List ℕ) (t : Text ℕ) → Holds (attribute name t) (t ∷ [])
in_attribute name t = gap · these (name ++ bytes "=\"") ▷ in_text is_printed t ◁ lit "\""

-- the text of an element that starts at `at`
in_content : (start : Form) (name : List ℕ) (allowed : ℕ → Bool) (t : Text ℕ) (at : ℕ) (w : List ℕ) → (start · content name allowed at t) at w → Standing t at w
in_content start name allowed t at w (u, v, e, s, (x, y, f, b, inl g)) =
    record { before = []; behind = w; is = ap (λ (r : List ℕ). raw r ++ w) (sym g.0.1); place = g.0.0 ∙ omega arith }
in_content start name allowed t at w (u, v, e, s, (x, y, f, b, inr h)) =
    (start ▷ (blanks ▷ (lit ">" ▷ in_text allowed t ◁ close name))).has at w (u, v, e, s, (x, y, f, b, h)) t (0, refl)

in_leaf : (name : List ℕ) (t : Text ℕ) → Holds (leaf name t) (t ∷ [])
in_leaf name t = one_text (leaf name t) t (in_content (tag name) name is_printed t)

in_spoken : (name : List ℕ) (x : Spoken ℕ) → Holds (spoken name x) (spoken_texts x)
in_spoken name x = record { has = go }
  where
    go : (at : ℕ) (w : List ℕ) → spoken name x at w → (u : Text ℕ) → u ∈ spoken_texts x → Standing u at w
    go at w y u (zero, n) =
        subst (λ (t : Text ℕ). Standing t at w) (sym n)
        ((tag name ▷ in_attribute (bytes "languageCode") x.language_code ◁ content name is_printed_or_high at x.words).has at w y x.language_code (0, refl))
    go at w y u (suc zero, n) =
        subst (λ (t : Text ℕ). Standing t at w) (sym n)
        (in_content (tag name · attribute (bytes "languageCode") x.language_code) name is_printed_or_high x.words at w y)
    go at w y u (suc (suc i), n) = absurd n

-- ---- elements that hold elements

in_holding : (name : List ℕ) {children : Form} {l : List (Text ℕ)} → Holds children l → Holds (holding name children) l
in_holding name h = blanks ▷ (lit ">" · blanks ▷ h ◁ close name)

in_holding? : (name : List ℕ) (N : Type 0) {children : Form} (l : List (Text ℕ)) → (N → l ≡ []) → Holds children l → Holds (holding? name N children) l
in_holding? name N {children} l e h = blanks ▷ record { has = go }
  where
    go : (at : ℕ) (w : List ℕ) → (given N (lit "/>") ∪ lit ">" · blanks · children · close name) at w → (t : Text ℕ) → t ∈ l → Standing t at w
    go at w (inl g) t m = absurd (subst (λ (k : List (Text ℕ)). t ∈ k) (e g.0) m).1
    go at w (inr x) t m = (lit ">" · blanks ▷ h ◁ close name).has at w x t m

in_child : {A : Type 0} (F : A → Form) (a : A) {l : List (Text ℕ)} → Holds (F a) l → Holds (child F a) l
in_child F a h = h ◁ blanks

in_leaf_child : (name : List ℕ) (t : Text ℕ) → Holds (child (leaf name) t) (t ∷ [])
in_leaf_child name t = in_child (leaf name) t (in_leaf name t)

in_leaf? : (name : List ℕ) (o : Option (Text ℕ)) → Holds (child? (leaf name) o) (present o)
in_leaf? name = in_text? (child (leaf name)) (in_leaf_child name)

in_identification : (name : List ℕ) (x : Identification ℕ) → Holds (identification name x) (identification_texts x)
in_identification name x =
    tag name
    ▷ in_holding name
    (in_leaf? (bytes "IPOfficeCode") x.office
    ⊗ in_leaf_child (bytes "ApplicationNumberText") x.number
    ⊗ in_leaf? (bytes "FilingDate") x.filed)

in_heading : (x : Heading ℕ) → Holds (heading x) (heading_texts x)
in_heading (reference t) = in_leaf_child (bytes "ApplicantFileReference") t
in_heading (application x t) =
    in_child (identification (bytes "ApplicationIdentification")) x (in_identification (bytes "ApplicationIdentification") x)
    ⊗ in_leaf? (bytes "ApplicantFileReference") t

in_party : (name latin : List ℕ) (x : Party ℕ) → Holds (party name latin x) (party_texts x)
in_party name latin x = in_child (spoken name) x.name (in_spoken name x.name) ⊗ in_leaf? latin x.latin

in_qualifier : (q : Qualifier ℕ) → Holds (qualifier q) (qualifier_texts q)
in_qualifier q =
    tag (bytes "INSDQualifier")
    ▷ in_holding (bytes "INSDQualifier")
    (in_leaf_child (bytes "INSDQualifier_name") q.name
    ⊗ in_leaf? (bytes "INSDQualifier_value") q.value)

in_quals : (o : Option (List (Qualifier ℕ))) → Holds (child? quals o) (gather qualifier_texts (listed o))
in_quals none = nothing _
in_quals (some l) =
    in_child quals l
    (tag (bytes "INSDFeature_quals")
    ▷ in_holding? (bytes "INSDFeature_quals") (l ≡ []) (gather qualifier_texts l) (λ e. ap (gather qualifier_texts) e)
    (in_each (child qualifier) qualifier_texts (λ q. in_child qualifier q (in_qualifier q)) l))

in_feature : (f : Feature ℕ) → Holds (feature f) (feature_texts f)
in_feature f =
    tag (bytes "INSDFeature")
    ▷ in_holding (bytes "INSDFeature")
    (in_leaf_child (bytes "INSDFeature_key") f.key
    ⊗ in_leaf_child (bytes "INSDFeature_location") f.location
    ⊗ in_quals f.quals)

in_table : (t : Table ℕ) → Holds (table t) (gather feature_texts t.features)
in_table t =
    record {
      has = λ at w x.
          (tag (bytes "INSDSeq_feature-table")
          ▷ in_holding (bytes "INSDSeq_feature-table")
          (in_each⁺ (child feature) feature_texts (λ f. in_child feature f (in_feature f)) t.features)).has at w x.1;
    }

in_table? : (o : Option (Table ℕ)) → Holds (child? table o) (gather feature_texts (features_in o))
in_table? none = nothing _
in_table? (some t) = in_child table t (in_table t)

in_ids : (o : Option (Text ℕ)) → Holds (other_ids o) (present o)
in_ids o =
    tag (bytes "INSDSeq_other-seqids")
    ▷ in_holding? (bytes "INSDSeq_other-seqids") (o ≡ none) (present o) (λ e. ap (present {A = Text ℕ}) e) (in_leaf? (bytes "INSDSeqid") o)

in_sequence : (s : Sequence ℕ) → Holds (sequence s) (sequence_texts s)
in_sequence s =
    tag (bytes "SequenceData")
    ▷ in_attribute (bytes "sequenceIDNumber") s.number
    ⊗ in_holding (bytes "SequenceData")
    (in_child inner s
    (tag (bytes "INSDSeq")
    ▷ in_holding (bytes "INSDSeq")
    (in_leaf_child (bytes "INSDSeq_length") s.declared
    ⊗ in_leaf_child (bytes "INSDSeq_moltype") s.moltype
    ⊗ in_leaf_child (bytes "INSDSeq_division") s.division
    ⊗ in_maybe (child other_ids) (present {A = Text ℕ}) (λ o. in_child other_ids o (in_ids o)) s.other_ids
    ⊗ in_table? s.table
    ⊗ in_leaf_child (bytes "INSDSeq_sequence") s.residues)))

-- ---- the listing

in_attributes : (l : Listing ℕ) → Holds (attributes l) (attribute_texts l)
in_attributes l =
    in_attribute (bytes "dtdVersion") l.dtd_version
    ⊗ in_text? (attribute (bytes "fileName")) (in_attribute (bytes "fileName")) l.file_name
    ⊗ in_text? (attribute (bytes "softwareName")) (in_attribute (bytes "softwareName")) l.software_name
    ⊗ in_text? (attribute (bytes "softwareVersion")) (in_attribute (bytes "softwareVersion")) l.software_version
    ⊗ in_text? (attribute (bytes "productionDate")) (in_attribute (bytes "productionDate")) l.production_date

in_parties : (l : Listing ℕ) → Holds (parties l) (parties_texts l)
in_parties l =
    let earliest = bytes "EarliestPriorityApplicationIdentification" in
    in_heading l.heading
    ⊗ in_maybe (child (identification earliest)) identification_texts (λ x. in_child (identification earliest) x (in_identification earliest x)) l.earliest
    ⊗ in_maybe (party (bytes "ApplicantName") (bytes "ApplicantNameLatin")) party_texts (in_party (bytes "ApplicantName") (bytes "ApplicantNameLatin")) l.applicant
    ⊗ in_maybe (party (bytes "InventorName") (bytes "InventorNameLatin")) party_texts (in_party (bytes "InventorName") (bytes "InventorNameLatin")) l.inventor

in_root : (l : Listing ℕ) → Holds (root l) (texts_of l)
in_root l =
    let title = bytes "InventionTitle" in
    tag (bytes "ST26SequenceListing")
    ▷ in_attributes l
    ⊗ in_holding (bytes "ST26SequenceListing")
    (in_parties l
    ⊗ in_each⁺ (child (spoken title)) spoken_texts (λ x. in_child (spoken title) x (in_spoken title x)) l.titles
    ⊗ in_leaf_child (bytes "SequenceTotalQuantity") l.total
    ⊗ in_each⁺ (child sequence) sequence_texts (λ s. in_child sequence s (in_sequence s)) l.sequences)

-- every part shown is the stated stretch
pub parts_shown : (w : List ℕ) (l : Listing ℕ) → LaidOut l w → (t : Text ℕ) → t ∈ texts_of l → StatedStretch w t
parts_shown w l laid t m =
    let s = (lit "<?xml version=\"1.0\" encoding=\"UTF-8\"?>" · blanks · doctype · blanks ▷ in_root l ◁ blanks).has 0 w laid.is t m in
    let r = raw t.read in
    let p : t.place ≡ length s.before = s.place ∙ omega arith in
    record {
      inside = omega (arith, p, ap length s.is, length-append s.before (r ++ s.behind), length-append r s.behind);
      holds = ap (λ (x : List ℕ). take (length r) (drop t.place x)) s.is
          ∙ ap (take (length r)) (drop_at s.before (r ++ s.behind) t.place (sym p))
          ∙ take_at r s.behind (length r) refl;
    }

-- ---- of a sequence

-- its texts before its features
abbrev head_texts : Sequence ℕ → List (Text ℕ)
head_texts s = (s.number ∷ s.declared ∷ s.moltype ∷ s.division ∷ []) ++ gather (present {A = Text ℕ}) (present s.other_ids)

module _ {w : List ℕ} {l : Listing ℕ} (laid : LaidOut l w) (s : Sequence ℕ) (i : s ∈ l.sequences) where
  text_stated : (t : Text ℕ) → t ∈ sequence_texts s → StatedStretch w t
  text_stated t m =
      let front = parties_texts l ++ gather spoken_texts l.titles ++ (l.total ∷ []) in
      let rest = gather sequence_texts l.sequences in
      parts_shown w l laid t (in_second (attribute_texts l) (front ++ rest) t (in_second front rest t (in_gather sequence_texts l.sequences s i t m)))

  pub residues_stated : StatedStretch w s.residues
  residues_stated =
      text_stated s.residues (in_second (head_texts s ++ gather feature_texts (features_of s)) (s.residues ∷ []) s.residues (0, refl))

  -- a text of a feature
  pub feature_stated : (f : Feature ℕ) → f ∈ features_of s → (t : Text ℕ) → t ∈ feature_texts f → StatedStretch w t
  feature_stated f j t m =
      let features = gather feature_texts (features_of s) in
      text_stated t
      (in_first (head_texts s ++ features) (s.residues ∷ []) t (in_second (head_texts s) features t (in_gather feature_texts (features_of s) f j t m)))
