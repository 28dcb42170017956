-- How names with meanings are kept, so that the nearest of a name is found without a walk.
use Rattle.std.specs.Prelude.{◌≡◌, ℕ, List, [], ◌∷◌, ◌++◌, map, length, Option, Some, None, if◌then◌else◌}
use Rattle.std.specs.Map.{lookup}
use Rattle.std.specs.Str.{bytes_eq}
use Rattle.indexmap.specs.IndexMap.{IndexMap, get}
use Rattle.px_check.specs.declared.scoped.Shadowing.{Shadowing}

module _ {T : Type 0} where
  -- names with meanings, the nearest first
  abbrev pub meanings : List (Shadowing T) → List (List ℕ × T)
  meanings = map (λ entry. (entry.name, entry.meaning))

  -- what a name means by these, of which the nearest come first
  abbrev pub meaning_of : List ℕ → List (List ℕ × T) → Option T
  meaning_of name named = lookup (bytes_eq name) named

  -- the place of the nearest entry of a name; the farthest entry has the place 0
  abbrev pub nearest_of : List ℕ → List (Shadowing T) → Option ℕ
  nearest_of name [] = None
  nearest_of name (entry ∷ entries) = if bytes_eq name entry.name then Some (length entries) else nearest_of name entries

  -- each entry knows which it shadows
  abbrev pub IsLinked : List (Shadowing T) → Type 0
  IsLinked [] = Unit {0}
  IsLinked (entry ∷ entries) = (entry.shadowed ≡ nearest_of entry.name entries) × IsLinked entries

  -- the index has the place of the nearest entry of each name
  abbrev pub IsIndex : {S : Type 0} → IndexMap (List ℕ) ℕ S → List (Shadowing T) → Type 0
  IsIndex index entries = (name : List ℕ) → get bytes_eq index name ≡ nearest_of name entries

  -- some names more
  abbrev pub IsOver : List (List ℕ × T) → List (List ℕ × T) → Type 0
  IsOver named more = (added : List (List ℕ × T)) × (more ≡ added ++ named)
