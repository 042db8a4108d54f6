-- The feature of a sequence that was found and the qualifier of a feature that was found, from where they stand; and the refusals 32 and
-- 33.
use Prim.Native.Nat.{ℕ}
use mathlib.Core.Path.{◌≡◌, refl, subst}
use mathlib.Core.List.{List}
use mathlib.Core.Option.{Option, none, some}
use Rattle.std.specs.Prelude.{Some, None, Ok, Err}
use Rattle.std.specs.Prelude as rust
use Rattle.paper.specs.Lists.{Numbered}
use Rattle.paper.specs.Form.{Form}
use Rattle.paper.specs.Tree.{Feature, Table, features_in, qualifiers_of}
use Rattle.paper.specs.Layout.{child}
use Rattle.paper.specs.Layout as layout
use Rattle.walk_items.specs.Items.{TableIs, MeetsFeature, MeetsQualifier}
use Rattle.walk_items.specs.declared.FoundSequence.{FoundSequence}
use Rattle.walk_items.specs.declared.FoundFeature.{FoundFeature}
use Rattle.walk_items.specs.declared.FoundQualifier.{FoundQualifier}
use Rattle.walk_items.specs.declared.FoundTable.{FoundTable}
use Rattle.walk_seek.specs.Items.{PlaceIs, SeeksIn}
use Rattle.walk_seek.specs.Within.{FeatureFound, QualifierFound}

-- what is promised of a place, of the variant that it is
pub placed : {A : Type 0} {F : A → Form} {s : List ℕ} {first k : ℕ} {r p : rust.Option ℕ} → r ≡ p → SeeksIn F s first k r → SeeksIn F s first k p
placed {F = F} {s} {first} {k} h x = subst (SeeksIn F s first k) h x

-- ---- a feature

module _ {w : List ℕ} {j : ℕ} where
  sought_in : (t : FoundTable) {p : rust.Option ℕ} → SeeksIn (child layout.feature) w t.first j p → (o : Option (Table ℕ)) → TableIs w o (Some t)
      → PlaceIs (child layout.feature) w (features_in o) j p
  sought_in t n none i = absurd i
  sought_in t n (some x) i = n.says x.features i.stop i.features i.closes

  module _ {r : FoundSequence} where
    pub no_table : r.table ≡ None → FeatureFound w r j (Err (record { rule = 32; place = 0 }))
    no_table h = record { says = λ q e x. (refl, refl, none_in q.table (subst (TableIs w q.table) h x.table)) }
      where
        none_in : (o : Option (Table ℕ)) → TableIs w o None → (f : Feature ℕ) → ¬ Numbered (features_in o) j f
        none_in none i f y = y.2
        none_in (some x) i f y = i

    module _ {t : FoundTable} {p : rust.Option ℕ} (has : r.table ≡ Some t) (sought : SeeksIn (child layout.feature) w t.first j p) where
      pub no_feature : p ≡ None → FeatureFound w r j (Err (record { rule = 32; place = 0 }))
      no_feature h =
          record { says = λ q e x. (refl, refl, sought_in t (placed h sought) q.table (subst (TableIs w q.table) has x.table)) }

      pub feature_so : {at : ℕ} {f : FoundFeature} → p ≡ Some at → MeetsFeature w at f → FeatureFound w r j (Ok f)
      feature_so h found =
          record {
            says =
                λ q e x.
                let y = sought_in t (placed h sought) q.table (subst (TableIs w q.table) has x.table) in
                record { asked = y.item; numbered = y.numbered; end = y.end; is = found y.item y.end y.stands y.follows };
          }

-- ---- a qualifier

module _ {w : List ℕ} {g : FoundFeature} {i : ℕ} {p : rust.Option ℕ} (sought : SeeksIn (child layout.qualifier) w g.quals i p) where
  pub no_qualifier : p ≡ None → QualifierFound w g i (Err (record { rule = 33; place = 0 }))
  no_qualifier h = record { says = λ f e x. (refl, refl, (placed h sought).says (qualifiers_of f) x.stop x.quals x.closes) }

  pub qualifier_so : {at : ℕ} {r : FoundQualifier} → p ≡ Some at → MeetsQualifier w at r → QualifierFound w g i (Ok r)
  qualifier_so h found =
      record {
        says =
            λ f e x.
            let y = (placed h sought).says (qualifiers_of f) x.stop x.quals x.closes in
            record { asked = y.item; numbered = y.numbered; end = y.end; is = found y.item y.end y.stands y.follows };
      }
