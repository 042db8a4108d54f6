-- A qualifier and a feature, found by their parts.
use Prim.Native.Nat.{ℕ}
use mathlib.Core.Path.{◌≡◌, refl}
use mathlib.Core.Bool.{Bool}
use mathlib.Core.List.{List, [], ◌∷◌, ◌++◌}
use mathlib.Core.Option.{Option}
use Rattle.std.specs.Prelude as rust
use lib.ListN.{drop}
use Rattle.paper.specs.Bytes.{bytes, is_blank}
use Rattle.paper.specs.Form.{Form, ◌·◌, maybe, each}
use Rattle.paper.specs.Tree.{Text, Qualifier, Feature, listed}
use Rattle.paper.specs.Layout.{tag, leaf, child, child?, holding, holding?, qualifier, quals}
use Rattle.read_steps.specs.Follow.{Not, Starts, anything, closing}
use Rattle.read_steps.proofs.Fronts.{Leads, leads_seq, leads_less, leads_by, leads_sharp, whole, each_starts, starts_sharp, starts_wider}
use Rattle.walk_steps.specs.Stands.{Stands, TellsChild, Ends, Finds, FindsLast, entering, leaving, OpensSo}
use Rattle.walk_steps.specs.declared.Range.{Range}
use Rattle.walk_steps.specs.declared.Found.{Found}
use Rattle.walk_steps.specs.declared.Opened.{Opened}
use Rattle.walk_steps.proofs.Places.{part, join, from}
use Rattle.walk_steps.proofs.Leaves.{no_blank, text_leaves}
use Rattle.walk_steps.proofs.Elements.{Inside, Sharp, held, held_at, within, tag_starts, tag_leads, leaf_leads}
use Rattle.walk_items.specs.Items.{MeetsQualifier, MeetsFeature, FeatureRest, FeatureFrom}
use Rattle.walk_items.specs.declared.FoundFeature.{FoundFeature}

-- ---- a qualifier

-- a leaf comes first, before what may follow it
leaf_sharp : (name : List ℕ) (x : Text ℕ) (F : Form) (at : ℕ) (w z : List ℕ) → (child (leaf name) x · F) at w → Not is_blank (w ++ z)
leaf_sharp name x F at w z =
    leads_sharp is_blank (bytes "<") (child (leaf name) x · F) refl
    (leads_seq (bytes "<") (child (leaf name) x) F (leads_less (bytes "<") name (child (leaf name) x) (leaf_leads name x))) at w z

pub qualifier_found : {s : List ℕ} {at a b n : ℕ} {x : Found Range} {v : Found (rust.Option Range)} → Ends (tag (bytes "INSDQualifier")) anything s at a
    → Ends entering (Not is_blank) s a b → Finds (child (leaf (bytes "INSDQualifier_name"))) (Not is_blank) s b x
    → FindsLast (bytes "INSDQualifier_value") s x.next v → Ends (leaving (bytes "INSDQualifier")) (Not is_blank) s v.next n
    → MeetsQualifier s at (record { name = x.part; value = v.part; next = n })
qualifier_found {s} p i name value l q e d fol =
    let N = child (leaf (bytes "INSDQualifier_name")) q.name in
    let W = maybe (child (leaf (bytes "INSDQualifier_value"))) q.value in
    let o = held (bytes "INSDQualifier") (N · W) (λ at w z c e. leaf_sharp (bytes "INSDQualifier_name") q.name W at w z c) p i d in
    let k = part N W o.children in
    let st : Starts (bytes "<INSDQualifier_value" ∷ closing) (drop k.0 s) =
    tag_starts (bytes "INSDQualifier_value") (child (leaf (bytes "INSDQualifier_value"))) (leaf_leads (bytes "INSDQualifier_value")) closing q.value k.2 o.closes in
    let fn = name q.name k.0 k.1 (starts_sharp is_blank (bytes "<INSDQualifier_value" ∷ closing) refl (drop k.0 s) st) in
    let fv = value (record { clash = refl; sharps = refl }) q.value o.end (from fn.next k.2) o.closes in
    record { name = fn.part; value = fv.part; next = l.is e (from fv.next o.leaves) fol }

-- ---- a feature

pub qualifier_leads : (q : Qualifier ℕ) → Leads (bytes "<INSDQualifier") (child qualifier q)
qualifier_leads q =
    tag_leads (bytes "INSDQualifier")
    (holding (bytes "INSDQualifier") (child (leaf (bytes "INSDQualifier_name")) q.name · child? (leaf (bytes "INSDQualifier_value")) q.value))

quals_sharp : (l : List (Qualifier ℕ)) → Sharp (each (child qualifier) l)
quals_sharp l at w z d c =
    starts_sharp is_blank (bytes "<INSDQualifier" ∷ closing) refl (w ++ z)
    (each_starts whole (bytes "<INSDQualifier") (child qualifier) (leads_by (bytes "<INSDQualifier") (child qualifier) qualifier_leads) closing l at w z d c)

quals_leads : (l : List (Qualifier ℕ)) → Leads (bytes "<INSDFeature_quals") (child quals l)
quals_leads l = tag_leads (bytes "INSDFeature_quals") (holding? (bytes "INSDFeature_quals") (l ≡ []) (each (child qualifier) l))

module _ (f : Feature ℕ) where
  abbrev K : Form
  K = child (leaf (bytes "INSDFeature_key")) f.key

  abbrev L : Form
  L = child (leaf (bytes "INSDFeature_location")) f.location

  abbrev Q : Form
  Q = child? quals f.quals

  parts_sharp : Sharp (K · L · Q)
  parts_sharp at w z c e =
      leads_sharp is_blank (bytes "<") (K · L · Q) refl
      (leads_seq (bytes "<") (K · L) Q (leads_seq (bytes "<") K L (leads_less (bytes "<") (bytes "INSDFeature_key") K (leaf_leads (bytes "INSDFeature_key") f.key)))) at w z c

-- its parts, one after another, from where its start tag ends
record Parts (f : Feature ℕ) (s : List ℕ) (at e : ℕ) : Type 0 where
  mid : ℕ
  key : Stands (K f) s at mid
  next : ℕ
  location : Stands (L f) s mid next
  follows : Not is_blank (drop next s)
  stop : ℕ
  quals : Stands (Q f) s next stop
  closes : Starts closing (drop stop s)
  leaves : Stands (leaving (bytes "INSDFeature")) s stop e

parts : (f : Feature ℕ) {s : List ℕ} {at e : ℕ} → Inside (bytes "INSDFeature") (K f · L f · Q f) s at e → Parts f s at e
parts f {s} i =
    let k = part (K f · L f) (Q f) i.children in
    let j = part (K f) (L f) k.1 in
    let st : Starts (bytes "<INSDFeature_quals" ∷ closing) (drop k.0 s) =
    tag_starts (bytes "INSDFeature_quals") (child quals) quals_leads closing f.quals k.2 i.closes in
    record {
      mid = j.0;
      key = j.1;
      next = k.0;
      location = j.2;
      follows = starts_sharp is_blank (bytes "<INSDFeature_quals" ∷ closing) refl (drop k.0 s) st;
      stop = i.end;
      quals = k.2;
      closes = i.closes;
      leaves = i.leaves;
    }

pub feature_rest : {s : List ℕ} {key location : Range} {at : ℕ} {here : Bool} {r : Opened} → TellsChild s at here → OpensSo (bytes "INSDFeature_quals") here s at r
    → FeatureRest s key location at (record { key = key; location = location; quals = r.first; long = r.long })
feature_rest {s} t o =
    record {
      says =
          λ f stop e k l d cl lv.
          let c = within (bytes "INSDFeature_quals") (λ (l : List (Qualifier ℕ)). l ≡ []) (each (child qualifier)) quals_sharp
          (λ (g : Option (List (Qualifier ℕ))). each (child qualifier) (listed g)) (λ at. refl) (λ l h at. rw h refl) (λ l at w g. g)
          closing refl cl (t.tells (bytes "INSDFeature_quals") refl) o f.quals d in
          record {
            key = k;
            location = l;
            stop = c.0.stop;
            quals = c.0.children;
            closes = starts_wider closing (bytes "</" ∷ closing) refl (drop c.0.stop s) c.0.follows;
            ends = join c.0.ends lv;
          };
    }

pub feature_found : {s : List ℕ} {at a b : ℕ} {x y : Found Range} {r : FoundFeature} → Ends (tag (bytes "INSDFeature")) anything s at a
    → Ends entering (Not is_blank) s a b → Finds (child (leaf (bytes "INSDFeature_key"))) (Not is_blank) s b x
    → Finds (child (leaf (bytes "INSDFeature_location"))) (Not is_blank) s x.next y → FeatureRest s x.part y.part y.next r → MeetsFeature s at r
feature_found p i key location rest f e d fol =
    let u = parts f (held (bytes "INSDFeature") (K f · L f · Q f) (parts_sharp f) p i d) in
    let fk = key f.key u.mid u.key (no_blank (bytes "<INSDFeature_location") refl (leaf_leads (bytes "INSDFeature_location") f.location) u.location) in
    let fl = location f.location u.next (from fk.next u.location) u.follows in
    rest.says f u.stop e fk.part fl.part (from fl.next u.quals) u.closes u.leaves

pub feature_from : {s : List ℕ} {key location : Range} {at : ℕ} {r : FoundFeature} → Ends (leaving (bytes "INSDFeature_location")) (Not is_blank) s location.to at
    → FeatureRest s key location at r → FeatureFrom s key location r
feature_from l rest =
    record {
      says =
          λ f at e d fol ik il some.
          let u = parts f (held_at (bytes "INSDFeature") (K f · L f · Q f) d).1 in
          let el = l.is u.next (text_leaves (bytes "INSDFeature_location") f.location some u.location il) u.follows in
          rest.says f u.stop e ik il (from el u.quals) u.closes u.leaves;
    }
