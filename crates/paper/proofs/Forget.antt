-- Marking keeps all of a listing but its marks: so `forget` loses no text, attribute or presence, only the places.
use mathlib.Core.Path.{◌≡◌, refl}
use mathlib.Core.List.{List, [], ◌∷◌, map}
use mathlib.Core.Option.{Option, none, some}
use Rattle.paper.specs.Tree.{Text, Party, Identification, Heading, reference, application, Qualifier, Feature, Table, Sequence, Listing, Bare, forget, opt, mark_text, mark_spoken, mark_party, mark_identification, mark_heading, mark_qualifier, mark_feature, mark_table, mark_sequence, mark_listing}

module _ {A : Type 0} (f : A → A) (same : (a : A) → f a ≡ a) where
  opt_same : (o : Option A) → opt f o ≡ o
  opt_same none = refl
  opt_same (some a) = λ i. some (same a i)

  map_same : (l : List A) → map f l ≡ l
  map_same [] = refl
  map_same (a ∷ l) = λ i. same a i ∷ map_same l i

module _ {P : Type 0} where
  -- every mark as it is
  abbrev as_is : P → P
  as_is p = p

  text_same : (o : Option (Text P)) → opt (mark_text as_is) o ≡ o
  text_same = opt_same (mark_text as_is) (λ t. refl)

  party_same : (x : Party P) → mark_party as_is x ≡ x
  party_same x = λ i. record { name = x.name; latin = text_same x.latin i }

  identification_same : (x : Identification P) → mark_identification as_is x ≡ x
  identification_same x = λ i. record { office = text_same x.office i; number = x.number; filed = text_same x.filed i }

  heading_same : (h : Heading P) → mark_heading as_is h ≡ h
  heading_same (reference t) = refl
  heading_same (application x t) = λ i. application (identification_same x i) (text_same t i)

  qualifier_same : (q : Qualifier P) → mark_qualifier as_is q ≡ q
  qualifier_same q = λ i. record { name = q.name; value = text_same q.value i }

  feature_same : (f : Feature P) → mark_feature as_is f ≡ f
  feature_same f =
      let quals = opt_same (map (mark_qualifier as_is)) (map_same (mark_qualifier as_is) qualifier_same) f.quals in
      λ i. record { key = f.key; location = f.location; quals = quals i }

  table_same : (t : Table P) → mark_table as_is t ≡ t
  table_same t = λ i. record { place = t.place; features = map_same (mark_feature as_is) feature_same t.features i }

  sequence_same : (s : Sequence P) → mark_sequence as_is s ≡ s
  sequence_same s =
      λ i. record {
        number = s.number;
        declared = s.declared;
        moltype = s.moltype;
        division = s.division;
        other_ids = opt_same (opt (mark_text as_is)) text_same s.other_ids i;
        table = opt_same (mark_table as_is) table_same s.table i;
        residues = s.residues;
      }

-- marking with what is there already changes nothing
pub mark_same : {P : Type 0} (l : Listing P) → mark_listing (λ p. p) l ≡ l
mark_same {P} l =
    let parties = opt_same (mark_party {P = P} as_is) party_same in
    λ i. record {
      dtd_version = l.dtd_version;
      file_name = text_same l.file_name i;
      software_name = text_same l.software_name i;
      software_version = text_same l.software_version i;
      production_date = text_same l.production_date i;
      heading = heading_same l.heading i;
      earliest = opt_same (mark_identification as_is) identification_same l.earliest i;
      applicant = parties l.applicant i;
      inventor = parties l.inventor i;
      titles = map_same (mark_spoken as_is) (λ x. refl) l.titles i;
      total = l.total;
      sequences = map_same (mark_sequence as_is) sequence_same l.sequences i;
    }

-- so of a bare listing nothing is forgotten
pub forget_same : (b : Bare) → forget b ≡ b
forget_same b = mark_same b
