-- Locations: a text is the text of at most one, and the model `locate` finds it.
pub mod Rest
pub mod Model
pub mod Gives
pub mod Pieces
pub mod Reads
use mathlib.Core.Path.{◌≡◌, refl, sym, ap, ◌∙◌}
use mathlib.Core.Bool.{true}
use mathlib.Core.Option.{none, some, some-injective, none-ne-some}
use mathlib.Core.List.{List, [], ◌∷◌}
use Prim.Native.Nat.{ℕ}
use native.Mathlib.Omega.{arith}
use Rattle.paper.specs.Locations.{Location, Locates}
use Model.{Got, read, whole, wholly, locate}
use Rest.{locates_rest, rest_locates}
use Reads.{read_sound, read_complete}

wholly_some : (g : Got Location) (t : Location) → wholly g ≡ some t → g ≡ some (t, [])
wholly_some none t e = absurd (none-ne-some t e)
wholly_some (some p) t e = go p.0 p.1 e
  where
    go : (s : Location) (r : List ℕ) → whole s r ≡ some t → ◌≡◌ {A = Got Location} (some (s, r)) (some (t, []))
    go s [] e = ap (λ (k : Location). some (k, [])) (some-injective s t e)
    go s (b ∷ r) e = absurd (none-ne-some t e)

pub locate_sound : (w : List ℕ) (t : Location) → locate w ≡ some t → Locates t w
locate_sound w t e = rest_locates ((read_sound 2 true true w).holds t [] (wholly_some (read 2 true true w) t e)).1

pub locate_complete : (w : List ℕ) (t : Location) → Locates t w → locate w ≡ some t
locate_complete w t x = rw (read_complete 2 true true (omega arith) t w [] ((refl, refl), locates_rest x) tt)

pub locates_once : {w : List ℕ} (t u : Location) → Locates t w → Locates u w → t ≡ u
locates_once {w} t u x y = some-injective t u (sym (locate_complete w t x) ∙ locate_complete w u y)
