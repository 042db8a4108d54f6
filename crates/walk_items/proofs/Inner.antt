-- What stands inside what stands: an item of a list, and the features of a sequence, for whoever hasn't walked there.
use Prim.Native.Nat.{ℕ, zero, suc}
use native.Mathlib.Omega.{arith}
use mathlib.Core.Path.{◌≡◌, refl, sym, subst}
use Rattle.std.specs.Prelude.{Some, None}
use mathlib.Core.List.{List, [], ◌∷◌}
use mathlib.Core.Option.{Option, none, some}
use lib.ListN.{drop}
use Rattle.paper.specs.Bytes.{bytes, is_blank}
use Rattle.paper.specs.Lists.{Nth, Numbered}
use Rattle.paper.specs.Form.{Form, ◌·◌, each, each⁺}
use Rattle.paper.specs.Tree.{Feature, Table, Sequence, features_in, features_of}
use Rattle.paper.specs.Layout.{blanks, tag, attribute, holding, child, child?, feature, table, inner, sequence}
use Rattle.read_steps.specs.Follow.{Not, Starts, StandsBefore, closing}
use Rattle.read_steps.proofs.Fronts.{Leads}
use Rattle.walk_steps.specs.Stands.{Stands, tag_of}
use Rattle.walk_steps.proofs.Places.{part, wider, some_each}
use Rattle.walk_steps.proofs.Elements.{inside_at, held_at}
use Rattle.walk_steps.proofs.Loops.{list_sharp}
use Rattle.walk_items.specs.Items.{IsFeature, MeetsFeature, TableIs, IsSequence, FirstFeature}
use Rattle.walk_items.specs.declared.FoundFeature.{FoundFeature}
use Rattle.walk_items.specs.declared.FoundTable.{FoundTable}
use Rattle.walk_items.specs.declared.FoundSequence.{FoundSequence}
use Rattle.walk_items.proofs.Sequences.{D, M, B, I, T, R, Children, table_at, feature_leads}

-- ---- an item of a list

-- x stands somewhere
pub record Somewhere {A : Type 0} (F : A → Form) (s : List ℕ) (x : A) : Type 0 where
  pub at : ℕ
  pub end : ℕ
  pub stands : Stands (F x) s at end
  pub follows : Not is_blank (drop end s)

-- fl are the words that may follow the list
module _ {A : Type 0} (name : List ℕ) (F : A → Form) (leads : (a : A) → Leads (tag_of name) (F a)) (fl : List (List ℕ)) (c : StandsBefore name fl)
    {s : List ℕ} {e : ℕ} (fol : Starts fl (drop e s)) where
  nth_stands : (l : List A) (i : ℕ) {x : A} {at : ℕ} → Stands (each F l) s at e → Nth l i x → Somewhere F s x
  nth_stands [] i d h = absurd h
  nth_stands (a ∷ l) zero {at = at} d h =
      let u = part (F a) (each F l) d in
      subst (Somewhere F s) (sym h) (record { at = at; end = u.0; stands = u.1; follows = list_sharp name F leads fl c fol l u.2 })
  nth_stands (a ∷ l) (suc n) d h = nth_stands l n (part (F a) (each F l) d).2 h

  pub item_stands : (l : List A) {k : ℕ} {x : A} {at : ℕ} → Stands (each F l) s at e → Numbered l k x → Somewhere F s x
  item_stands l d n = nth_stands l n.0 d n.2

-- ---- the features of a sequence

before_closing : StandsBefore (bytes "INSDFeature") closing
before_closing = record { clash = refl; sharps = refl }

-- the features l stand here, before the end tag of their table
pub record Features (s : List ℕ) (at : ℕ) (l : List (Feature ℕ)) : Type 0 where
  pub end : ℕ
  pub stand : Stands (each (child feature) l) s at end
  pub closes : Starts closing (drop end s)

-- f, the first of them, and the others l behind it
pub record Front (s : List ℕ) (at : ℕ) (f : Feature ℕ) (l : List (Feature ℕ)) : Type 0 where
  pub next : ℕ
  pub stands : Stands (child feature f) s at next
  pub follows : Not is_blank (drop next s)
  pub behind : Features s next l

table_features : {s : List ℕ} {at e : ℕ} (o : Option (Table ℕ)) → ¬ (features_in o ≡ []) → Stands (child? table o) s at e → (b : ℕ) × Features s b (features_in o)
table_features none h d = absurd (h refl)
table_features (some t) h d =
    let y = held_at (bytes "INSDSeq_feature-table") (each⁺ (child feature) t.features) (table_at t d).1 in
    let i = y.1 in
    (y.0, record { end = i.end; stand = wider (some_each (child feature) t.features) i.children; closes = i.closes })

front : {s : List ℕ} {at : ℕ} (f : Feature ℕ) (l : List (Feature ℕ)) → Features s at (f ∷ l) → Front s at f l
front f l d =
    let u = part (child feature f) (each (child feature) l) d.stand in
    record {
      next = u.0;
      stands = u.1;
      follows = list_sharp (bytes "INSDFeature") (child feature) feature_leads closing before_closing d.closes l u.2;
      behind = record { end = d.end; stand = u.2; closes = d.closes };
    }

module _ {s : List ℕ} {at e : ℕ} (q : Sequence ℕ) (d : Stands (child sequence q) s at e) where
  pub features_stand : ¬ (features_of q ≡ []) → (b : ℕ) × Features s b (features_of q)
  features_stand h =
      let u = part (sequence q) blanks d in
      let v = part (tag (bytes "SequenceData") · attribute (bytes "sequenceIDNumber") q.number) (holding (bytes "SequenceData") (child inner q)) u.1 in
      let o = (inside_at (bytes "SequenceData") (child inner q) v.2 u.2).2 in
      let y = (held_at (bytes "INSDSeq") (Children q) o.children).1 in
      let k = part (D q · M q · B q · I q · T q) (R q) y.children in
      table_features q.table h (part (D q · M q · B q · I q) (T q) k.1).2

  pub feature_stands : {j : ℕ} {f : Feature ℕ} → Numbered (features_of q) j f → Somewhere (child feature) s f
  feature_stands {f = f} n =
      let y = (features_stand (λ h. subst (λ (l : List (Feature ℕ)). Nth l n.0 f) h n.2)).1 in
      item_stands (bytes "INSDFeature") (child feature) feature_leads closing before_closing y.closes (features_of q) y.stand n

  pub front_stands : {f : Feature ℕ} {l : List (Feature ℕ)} → features_of q ≡ f ∷ l → (b : ℕ) × Front s b f l
  front_stands {f} {l} are =
      let y = features_stand (λ h. let z : ◌≡◌ {A = ℕ} 0 1 = cc in omega arith) in
      (y.0, front f l (subst (Features s y.0) are y.1))

-- ---- its first feature

pub first_is : {s : List ℕ} {at : ℕ} {q : Sequence ℕ} {f : Feature ℕ} {l : List (Feature ℕ)} {g : FoundFeature} → features_of q ≡ f ∷ l
    → (y : Front s at f l) → IsFeature s f y.next g → FirstFeature s q g
first_is {f = f} {l} are y i =
    let b = y.behind in
    record { first = f; others = l; are = are; next = y.next; is = i; follows = y.follows; end = b.end; behind = b.stand; closes = b.closes }

-- in a sequence that was found
module _ {s : List ℕ} {q : Sequence ℕ} {e : ℕ} {r : FoundSequence} (i : IsSequence s q e r) where
  pub first_found : {t : FoundTable} {g : FoundFeature} → r.table ≡ Some t → MeetsFeature s t.first g → FirstFeature s q g
  first_found {t} {g} h m = let y = there q.table (subst (TableIs s q.table) h i.table) in by (features_of q) refl y.0 y.1
    where
      there : (o : Option (Table ℕ)) → TableIs s o (Some t) → (¬ (features_in o ≡ [])) × Features s t.first (features_in o)
      there none x = absurd x
      there (some x) d = (d.some, record { end = d.stop; stand = d.features; closes = d.closes })

      by : (l : List (Feature ℕ)) → features_of q ≡ l → ¬ (l ≡ []) → Features s t.first l → FirstFeature s q g
      by [] are n d = absurd (n refl)
      by (f ∷ l) are n d = let y = front f l d in first_is are y (m f y.next y.stands y.follows)

  pub no_features : r.table ≡ None → features_of q ≡ []
  no_features h = none_in q.table (subst (TableIs s q.table) h i.table)
    where
      none_in : (o : Option (Table ℕ)) → TableIs s o None → features_in o ≡ []
      none_in none t = refl
      none_in (some x) t = absurd t
