-- The nodes that rows stand for, each over the rows up to its parent's.
use Rattle.std.specs.Prelude.{◌≡◌, ℕ, ◌<◌, List, [], ◌∷◌, ◌++◌, length, slice_index_or, Option, Some, None, IsTrue}
use Rattle.std.specs.Option.{ForSome}
use Rattle.px_value.specs.Name.{is_name}
use Rattle.px_core.specs.Plan.{Site, no_site}
use Rattle.px_flat.specs.declared.row.Row.{Row}
use Rattle.px_flat.specs.Row.{head_data}

-- the paths from a parent up, where the sites up to the parent's are known
abbrev pub above_in : List Site → Option ℕ → List (List ℕ)
above_in sites None = []
above_in sites (Some j) = (slice_index_or sites j no_site).path ∷ (slice_index_or sites j no_site).above

-- the site of a row, where the sites up to its parent's are known
abbrev pub site_of : List Site → Row → Site
site_of sites row = record { path = row.path; above = above_in sites row.parent; head = head_data row.head }

-- sites, and after them each of these rows as a site
abbrev pub grown : List Site → List Row → List Site
grown sites [] = sites
grown sites (row ∷ rows) = grown (sites ++ site_of sites row ∷ []) rows

-- the sites of rows
abbrev pub sites_of : List Row → List Site
sites_of rows = grown [] rows

-- the path at a number
abbrev pub path_at : List Row → ℕ → List ℕ
path_at rows i = (slice_index_or (sites_of rows) i no_site).path

-- a parent stands before its children
abbrev pub IsBefore : ℕ → Row → Type 0
IsBefore i row = ForSome row.parent (λ j. j < i)

abbrev pub IsLinked : List Row → Type 0
IsLinked rows = (i : ℕ) (d : Row) → i < length rows → IsBefore i (slice_index_or rows i d)

-- each node has a name of the right form
abbrev pub IsNamed : List Row → Type 0
IsNamed rows = (i : ℕ) (d : Row) → i < length rows → IsTrue (is_name (slice_index_or rows i d).head.name)

-- parents stand before their children, and no two paths are the same
pub record IsLaid (rows : List Row) : Type 0 where
  pub linked : IsLinked rows
  pub distinct : (i j : ℕ) → i < length rows → j < length rows → path_at rows i ≡ path_at rows j → i ≡ j
