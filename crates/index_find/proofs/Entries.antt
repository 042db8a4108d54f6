-- The entry of a feature in its sequence's body.
use Prim.Native.Nat.{ℕ, ◌*◌, ◌-◌, ◌/◌, ◌≤◌, ◌<◌}
use native.Mathlib.Omega.{arith}
use mathlib.Core.Path.{◌≡◌, ap, subst}
use mathlib.Core.List.{List, ◌++◌}
use lib.ListN.{length, length-append, length-drop}
use Rattle.std.specs.Prelude.{Some, None}
use Rattle.paper.specs.Lists.{gather}
use Rattle.paper.specs.Tree.{Sequence, features_of}
use Rattle.paper.specs.Index.{in_bytes, place_and_length, feature_entry}
use Rattle.paper.proofs.Lists.{numbered_inside, Parted, parted, gather_parted}
use Rattle.paper.proofs.Index.{length_in_bytes, length_features}
use Rattle.walk_steps.specs.Stands.{Past}
use Rattle.walk_steps.specs.declared.Range.{Range}
use Rattle.index_find.specs.Finds.{NumbersAt, PartFound, BodyIs, EntryIn, EntryFound}
use Rattle.index_find.specs.declared.Body.{Body}
use Rattle.index_find.proofs.Numbers.{numbers_first, numbers_past}

-- all entries stand in the index
entries_inside : {x : List ℕ} {b : Body} {s : Sequence ℕ} → BodyIs x s b → 16 * length (features_of s) ≤ length x
entries_inside {x} {b} {s} i =
    let numbers = gather feature_entry (features_of s) in
    omega (
      arith,
      ap length i.entries,
      length-drop b.first x,
      length-append (in_bytes numbers) i.behind,
      length_in_bytes numbers,
      length_features (features_of s),
    )

module _ {x : List ℕ} {b : Body} {j : ℕ} where
  -- numbers count from 1
  pub entry_zero : j ≡ 0 → EntryFound x b j None
  entry_zero z = record { says = λ s i f n. omega (arith, z, numbered_inside (features_of s) j f n) }

  pub entry_above : b.count < j → EntryFound x b j None
  entry_above h = record { says = λ s i f n. omega (arith, h, i.count, numbered_inside (features_of s) j f n) }

  pub entry_outside : length x / 16 < j → EntryFound x b j None
  entry_outside h = record { says = λ s i f n. omega (arith, h, entries_inside i, numbered_inside (features_of s) j f n) }

  -- its key stands m bytes behind the first entry, and its location n bytes further
  module _ (some : ¬ (j ≡ 0)) (within : j ≤ b.count) {m n at next : ℕ} (past : Past x b.first m at) (to-key : m ≡ 16 * (j - 1))
      (onward : Past x at n next) (to-location : n ≡ 8) where
    entry_here : {s : Sequence ℕ} → BodyIs x s b → (p : Parted (features_of s) (j - 1)) → NumbersAt x at (feature_entry p.item ++ gather feature_entry p.behind)
    entry_here i p =
        numbers_past (gather feature_entry p.before) (feature_entry p.item ++ gather feature_entry p.behind)
        (subst (NumbersAt x b.first) (gather_parted feature_entry p) (record { behind = i.behind; here = i.entries; fits = i.fits }))
        (omega (arith, to-key, length_features p.before, p.size)) past

    pub entry_found : {key location : Range} → PartFound x at key → PartFound x next location
        → EntryFound x b j (Some (record { key = key; location = location }))
    entry_found {key = k} {location = o} key location = record { says = λ s i. go i (parted (features_of s) (j - 1) (omega (arith, some, within, i.count))) }
      where
        go : {s : Sequence ℕ} → BodyIs x s b → Parted (features_of s) (j - 1) → EntryIn s j (Some (record { key = k; location = o }))
        go i p =
            let f = p.item in
            let behind = place_and_length f.location ++ gather feature_entry p.behind in (
              f,
              (j - 1, omega (arith, some), p.nth),
              key.says f.key (numbers_first (place_and_length f.key) behind (entry_here i p)),
              location.says f.location
                  (numbers_first (place_and_length f.location) (gather feature_entry p.behind)
                  (numbers_past (place_and_length f.key) behind (entry_here i p) to-location onward)),
            )
