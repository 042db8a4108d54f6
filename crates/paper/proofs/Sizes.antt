-- How short a listing can be that has so many sequences and features: by the words of the layout that it can't do without.
use Prim.Native.Nat.{ℕ, ◌+◌, ◌*◌, ◌≤◌}
use native.Mathlib.Omega.{arith}
use mathlib.Core.Path.{◌≡◌, refl, ap, ◌∙◌}
use mathlib.Core.Logic.{inl, inr}
use mathlib.Core.List.{List, [], ◌∷◌, ◌++◌, map}
use mathlib.Core.Option.{Option, none, some}
use lib.ListN.{length, length-append}
use Rattle.paper.specs.Bytes.{bytes, is_printed}
use Rattle.paper.specs.Form.{Form, lit, ◌·◌, ◌∪◌, given, each, each⁺}
use Rattle.paper.specs.Lists.{gather}
use Rattle.paper.specs.Tree.{Text, Feature, Table, Sequence, Listing, features_in, features_of}
use Rattle.paper.specs.Layout.{blanks, text, tag, close, attribute, content, leaf, spoken, child, child?, holding, quals, feature, table, other_ids, inner, sequence, attributes, parties, doctype, LaidOut}
use Rattle.paper.specs.Answers.{every_feature}
use Rattle.paper.proofs.Least.{AtLeast, any, enough, word, ◌⊗◌}
use Rattle.paper.proofs.Lists.{length-map, total}

-- ---- forms

either : (F G : Form) {n : ℕ} → AtLeast F n → AtLeast G n → AtLeast (F ∪ G) n
either F G {n} f g = record { has = go }
  where
    go : (at : ℕ) (w : List ℕ) → (F ∪ G) at w → n ≤ length w
    go at w (inl x) = f.has at w x
    go at w (inr x) = g.has at w x

module _ {A : Type 0} (F : A → Form) (n : A → ℕ) (h : (a : A) → AtLeast (F a) (n a)) where
  in_each : (l : List A) → AtLeast (each F l) (total n l)
  in_each [] = any _
  in_each (a ∷ l) = h a ⊗ in_each l

  in_each⁺ : (l : List A) → AtLeast (each⁺ F l) (total n l)
  in_each⁺ [] = any _
  in_each⁺ (a ∷ l) = record { has = (h a ⊗ in_each l).has }

-- ---- elements, by the words that they can't do without

in_close : (name : List ℕ) → AtLeast (close name) (length (bytes "</" ++ name) + length (bytes ">"))
in_close name = enough (word (bytes "</" ++ name) ⊗ any blanks ⊗ word (bytes ">")) (omega arith)

in_leaf : (name : List ℕ) (t : Text ℕ) → AtLeast (leaf name t) (length (bytes "<" ++ name) + length (bytes "/>"))
in_leaf name t = record { has = λ at. (word (bytes "<" ++ name) ⊗ rest at).has at }
  where
    rest : (at : ℕ) → AtLeast (content name is_printed at t) (length (bytes "/>"))
    rest at =
        enough
        (any blanks
        ⊗ either (given ((t.place ≡ at) × (t.read ≡ [])) (lit "/>")) (lit ">" · text is_printed t · close name)
        (record { has = λ at w x. (word (bytes "/>")).has at w x.1 })
        (enough (word (bytes ">") ⊗ any (text is_printed t) ⊗ in_close name) (omega arith)))
        (omega arith)

in_holding : (name : List ℕ) {children : Form} {n : ℕ} → AtLeast children n
    → AtLeast (holding name children) (length (bytes ">") + n + length (bytes "</" ++ name) + length (bytes ">"))
in_holding name h = enough (any blanks ⊗ (word (bytes ">") ⊗ any blanks ⊗ h ⊗ in_close name)) (omega arith)

in_child : {A : Type 0} (F : A → Form) (a : A) {n : ℕ} → AtLeast (F a) n → AtLeast (child F a) n
in_child F a h = enough (h ⊗ any blanks) (omega arith)

in_leaf_child : (name : List ℕ) (t : Text ℕ) → AtLeast (child (leaf name) t) (length (bytes "<" ++ name) + length (bytes "/>"))
in_leaf_child name t = in_child (leaf name) t (in_leaf name t)

-- ---- features and sequences: each takes four times what it takes in an index, 16 and 20 bytes

in_feature : (f : Feature ℕ) → AtLeast (feature f) (4 * 16)
in_feature f =
    enough
    (word (bytes "<INSDFeature")
    ⊗ in_holding (bytes "INSDFeature")
    (in_leaf_child (bytes "INSDFeature_key") f.key
    ⊗ in_leaf_child (bytes "INSDFeature_location") f.location
    ⊗ any (child? quals f.quals)))
    (omega arith)

in_table : (o : Option (Table ℕ)) → AtLeast (child? table o) (4 * 16 * length (features_in o))
in_table none = any _
in_table (some t) =
    let name = bytes "INSDSeq_feature-table" in
    let held = any (tag name) ⊗ in_holding name (in_each⁺ (child feature) (λ f. 4 * 16) (λ f. in_child feature f (in_feature f)) t.features) in
    enough (in_child table t (record { has = λ at w x. held.has at w x.1 })) (omega (arith, all t.features))
  where
    all : (l : List (Feature ℕ)) → total (λ (f : Feature ℕ). 4 * 16) l ≡ 4 * 16 * length l
    all [] = refl
    all (f ∷ l) = omega (arith, all l)

abbrev room : Sequence ℕ → ℕ
room s = 4 * 20 + 4 * 16 * length (features_of s)

in_sequence : (s : Sequence ℕ) → AtLeast (sequence s) (room s)
in_sequence s =
    enough
    (word (bytes "<SequenceData")
    ⊗ any (attribute (bytes "sequenceIDNumber") s.number)
    ⊗ in_holding (bytes "SequenceData")
    (in_child inner s
    (word (bytes "<INSDSeq")
    ⊗ in_holding (bytes "INSDSeq")
    (in_leaf_child (bytes "INSDSeq_length") s.declared
    ⊗ in_leaf_child (bytes "INSDSeq_moltype") s.moltype
    ⊗ in_leaf_child (bytes "INSDSeq_division") s.division
    ⊗ any (child? other_ids s.other_ids)
    ⊗ in_table s.table
    ⊗ in_leaf_child (bytes "INSDSeq_sequence") s.residues))))
    (omega arith)

-- every feature of these sequences, with its sequence
abbrev pub featured : List (Sequence ℕ) → List (Sequence ℕ × Feature ℕ)
featured = gather (λ (s : Sequence ℕ). map {A = Feature ℕ} {B = Sequence ℕ × Feature ℕ} (λ f. (s, f)) (features_of s))

pub length_featured : (s : Sequence ℕ) (l : List (Sequence ℕ)) → length (featured (s ∷ l)) ≡ length (features_of s) + length (featured l)
length_featured s l =
    let here = map {A = Feature ℕ} {B = Sequence ℕ × Feature ℕ} (λ f. (s, f)) (features_of s) in
    length-append here (featured l) ∙ ap (λ (k : ℕ). k + length (featured l)) (length-map {A = Feature ℕ} {B = Sequence ℕ × Feature ℕ} (λ f. (s, f)) (features_of s))

rooms : (l : List (Sequence ℕ)) → total room l ≡ 4 * 20 * length l + 4 * 16 * length (featured l)
rooms [] = refl
rooms (s ∷ l) = omega (arith, length_featured s l, rooms l)

-- ---- the listing: its first line takes four times what the count of sequences takes

pub listing_room : {w : List ℕ} {l : Listing ℕ} → LaidOut l w → 4 * (4 + 20 * length l.sequences + 16 * length (every_feature l)) ≤ length w
listing_room {w} {l} laid =
    let name = bytes "ST26SequenceListing" in
    let before = parties l · each⁺ (child (spoken (bytes "InventionTitle"))) l.titles · child (leaf (bytes "SequenceTotalQuantity")) l.total in
    let held =
    word (bytes "<?xml version=\"1.0\" encoding=\"UTF-8\"?>")
    ⊗ any blanks
    ⊗ any doctype
    ⊗ any blanks
    ⊗ (any (tag name)
    ⊗ any (attributes l)
    ⊗ in_holding name (any before ⊗ in_each⁺ (child sequence) room (λ s. in_child sequence s (in_sequence s)) l.sequences))
    ⊗ any blanks in
    omega (arith, held.has 0 w laid.is, rooms l.sequences)
