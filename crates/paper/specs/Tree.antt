-- The listing as a tree: "the tree of elements, attribute texts and element texts; blanks outside those texts aren't part of it."
-- Each text carries a mark P: its place (ℕ), or nothing (Unit) in the bare listing of demand 3.
use Rattle.std.specs.Prelude.{ℕ, List, [], ◌∷◌, ◌++◌, map}
use Rattle.std.proofs.Math.Option.{Option, none, some}
use Rattle.paper.specs.Lists.{gather, present}

-- a text as read
pub record Text (P : Type 0) : Type 0 where
  pub place : P
  pub read : List ℕ

-- "ApplicantName, InventorName, InventionTitle: text, with required attribute languageCode."
pub record Spoken (P : Type 0) : Type 0 where
  pub language_code : Text P
  pub words : Text P

-- a name, "then" the same in Latin letters "?"
pub record Party (P : Type 0) : Type 0 where
  pub name : Spoken P
  pub latin : Option (Text P)

-- "Both identifications: IPOfficeCode?, ApplicationNumberText, FilingDate?."
pub record Identification (P : Type 0) : Type 0 where
  pub office : Option (Text P)
  pub number : Text P
  pub filed : Option (Text P)

-- "either ApplicantFileReference, or ApplicationIdentification then ApplicantFileReference?"
pub data Heading (P : Type 0) : Type 0 where
  reference : Text P → Heading P
  application : Identification P → Option (Text P) → Heading P

-- "INSDQualifier: INSDQualifier_name, INSDQualifier_value?."
pub record Qualifier (P : Type 0) : Type 0 where
  pub name : Text P
  pub value : Option (Text P)

-- "INSDFeature: INSDFeature_key, INSDFeature_location, INSDFeature_quals?. INSDFeature_quals: INSDQualifier*."
pub record Feature (P : Type 0) : Type 0 where
  pub key : Text P
  pub location : Text P
  pub quals : Option (List (Qualifier P))

-- "INSDSeq_feature-table: INSDFeature+.", with the place of its start tag's `<`
pub record Table (P : Type 0) : Type 0 where
  pub place : P
  pub features : List (Feature P)

-- "SequenceData, attribute sequenceIDNumber: INSDSeq." and "INSDSeq: INSDSeq_length, INSDSeq_moltype, INSDSeq_division,
-- INSDSeq_other-seqids?, INSDSeq_feature-table?, INSDSeq_sequence." and "INSDSeq_other-seqids: INSDSeqid?."
pub record Sequence (P : Type 0) : Type 0 where
  pub number : Text P
  pub declared : Text P
  pub moltype : Text P
  pub division : Text P
  pub other_ids : Option (Option (Text P))
  pub table : Option (Table P)
  pub residues : Text P

-- "ST26SequenceListing: .. Attributes: dtdVersion, then, each optional, fileName, softwareName, softwareVersion, productionDate."
pub record Listing (P : Type 0) : Type 0 where
  pub dtd_version : Text P
  pub file_name : Option (Text P)
  pub software_name : Option (Text P)
  pub software_version : Option (Text P)
  pub production_date : Option (Text P)
  pub heading : Heading P
  pub earliest : Option (Identification P)
  pub applicant : Option (Party P)
  pub inventor : Option (Party P)
  pub titles : List (Spoken P)
  pub total : Text P
  pub sequences : List (Sequence P)

-- ---- the same tree with other marks

abbrev pub opt : {A B : Type 0} → (A → B) → Option A → Option B
opt f none = none
opt f (some a) = some (f a)

module _ {P Q : Type 0} (m : P → Q) where
  abbrev pub mark_text : Text P → Text Q
  mark_text t = record { place = m t.place; read = t.read }

  abbrev pub mark_spoken : Spoken P → Spoken Q
  mark_spoken x = record { language_code = mark_text x.language_code; words = mark_text x.words }

  abbrev pub mark_party : Party P → Party Q
  mark_party x = record { name = mark_spoken x.name; latin = opt mark_text x.latin }

  abbrev pub mark_identification : Identification P → Identification Q
  mark_identification x = record { office = opt mark_text x.office; number = mark_text x.number; filed = opt mark_text x.filed }

  abbrev pub mark_heading : Heading P → Heading Q
  mark_heading (reference t) = reference (mark_text t)
  mark_heading (application x t) = application (mark_identification x) (opt mark_text t)

  abbrev pub mark_qualifier : Qualifier P → Qualifier Q
  mark_qualifier q = record { name = mark_text q.name; value = opt mark_text q.value }

  abbrev pub mark_feature : Feature P → Feature Q
  mark_feature f = record { key = mark_text f.key; location = mark_text f.location; quals = opt (map mark_qualifier) f.quals }

  abbrev pub mark_table : Table P → Table Q
  mark_table t = record { place = m t.place; features = map mark_feature t.features }

  abbrev pub mark_sequence : Sequence P → Sequence Q
  mark_sequence s =
      record {
        number = mark_text s.number;
        declared = mark_text s.declared;
        moltype = mark_text s.moltype;
        division = mark_text s.division;
        other_ids = opt (opt mark_text) s.other_ids;
        table = opt mark_table s.table;
        residues = mark_text s.residues;
      }

  abbrev pub mark_listing : Listing P → Listing Q
  mark_listing l =
      record {
        dtd_version = mark_text l.dtd_version;
        file_name = opt mark_text l.file_name;
        software_name = opt mark_text l.software_name;
        software_version = opt mark_text l.software_version;
        production_date = opt mark_text l.production_date;
        heading = mark_heading l.heading;
        earliest = opt mark_identification l.earliest;
        applicant = opt mark_party l.applicant;
        inventor = opt mark_party l.inventor;
        titles = map mark_spoken l.titles;
        total = mark_text l.total;
        sequences = map mark_sequence l.sequences;
      }

abbrev pub Bare : Type 0
Bare = Listing (Unit {0})

-- the listing without its places
abbrev pub forget : {P : Type 0} → Listing P → Bare
forget = mark_listing (λ p. tt)

-- ---- what rules and counts speak of

-- the features of a sequence, none where it has no table
abbrev pub features_in : {P : Type 0} → Option (Table P) → List (Feature P)
features_in none = []
features_in (some t) = t.features

abbrev pub features_of : {P : Type 0} → Sequence P → List (Feature P)
features_of s = features_in s.table

-- the qualifiers of a feature, none where it has no INSDFeature_quals
abbrev pub listed : {P : Type 0} → Option (List (Qualifier P)) → List (Qualifier P)
listed none = []
listed (some l) = l

abbrev pub qualifiers_of : {P : Type 0} → Feature P → List (Qualifier P)
qualifiers_of f = listed f.quals

-- ---- every text of a listing, in document order

module _ {P : Type 0} where
  abbrev pub spoken_texts : Spoken P → List (Text P)
  spoken_texts x = x.language_code ∷ x.words ∷ []

  abbrev pub party_texts : Party P → List (Text P)
  party_texts x = spoken_texts x.name ++ present x.latin

  abbrev pub identification_texts : Identification P → List (Text P)
  identification_texts x = present x.office ++ (x.number ∷ []) ++ present x.filed

  abbrev pub heading_texts : Heading P → List (Text P)
  heading_texts (reference t) = t ∷ []
  heading_texts (application x t) = identification_texts x ++ present t

  abbrev pub qualifier_texts : Qualifier P → List (Text P)
  qualifier_texts q = q.name ∷ present q.value

  abbrev pub feature_texts : Feature P → List (Text P)
  feature_texts f = f.key ∷ f.location ∷ gather qualifier_texts (qualifiers_of f)

  abbrev pub sequence_texts : Sequence P → List (Text P)
  sequence_texts s =
      (s.number ∷ s.declared ∷ s.moltype ∷ s.division ∷ [])
      ++ gather (present {A = Text P}) (present s.other_ids)
      ++ gather feature_texts (features_of s)
      ++ (s.residues ∷ [])

  abbrev pub attribute_texts : Listing P → List (Text P)
  attribute_texts l =
      (l.dtd_version ∷ [])
      ++ present l.file_name
      ++ present l.software_name
      ++ present l.software_version
      ++ present l.production_date

  abbrev pub parties_texts : Listing P → List (Text P)
  parties_texts l =
      heading_texts l.heading
      ++ gather identification_texts (present l.earliest)
      ++ gather party_texts (present l.applicant)
      ++ gather party_texts (present l.inventor)

  abbrev pub texts_of : Listing P → List (Text P)
  texts_of l = attribute_texts l ++ (parties_texts l ++ gather spoken_texts l.titles ++ (l.total ∷ []) ++ gather sequence_texts l.sequences)
