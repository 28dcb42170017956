-- The record of a node after a step, and after another record was put in the place of one.
use Rattle.std.proofs.Common.{◌≡◌, ℕ, Bool, true, false, List, [], ◌∷◌, map, Option, Some, refl, ap, sym, ◌∙◌, subst, if◌then◌else◌}
use Rattle.std.specs.List.{All, find}
use Rattle.std.specs.Map.{lookup}
use Rattle.std.specs.Option.{unwrap_or, option_map}
use Rattle.std.specs.Cmp.Lexicographic.{bytes_decides}
use Rattle.std.proofs.lemmas.List.{get_or_default}
use Rattle.px_value.proofs.General.{found_has, lookup-map}
use Rattle.px_core.specs.Fit.{AreDistinct}
use Rattle.px_core.specs.Plan.{Site, no_site, is_same}
use Rattle.px_core.proofs.Paths.{found_itself}
use Rattle.px_sem.specs.World.{World, NodeRecord, no_record, record_at, initial_world, initial_record}
use Rattle.px_sem.specs.Events.{with_entry}
use Rattle.px_sem.specs.Step.{micro, next_record}

-- the first node at a path
abbrev pub found : List Site → List ℕ → Option Site
found plan path = find (λ site. is_same site.path path) plan

-- what is found by its name has that name
pub found_named : {X : Type 0} (name_of : X → List ℕ) (xs : List X) (name : List ℕ) (x : X)
    → find (λ x. is_same (name_of x) name) xs ≡ Some x → name_of x ≡ name
found_named {X} name_of xs name x is = (bytes_decides (name_of x) name).0
    (found_has (λ (x : X). Unit {0}) (λ x. is_same (name_of x) name) xs x (λ k d within. tt) is).1

-- what holds of each node holds of the one that is found
pub found_holds : (P : Site → Type 0) (plan : List Site) → All P plan → (path : List ℕ) (site : Site)
    → found plan path ≡ Some site → P site
found_holds P plan all path site is = (found_has P (λ s. is_same s.path path) plan site all is).0

-- each node is the one at its path, where paths differ
pub each_is_found : (plan : List Site) → AreDistinct plan → All (λ site. found plan site.path ≡ Some site) plan
each_is_found plan distinct k d within =
    subst (λ site. found plan site.path ≡ Some site) (get_or_default plan k no_site d within) (found_itself plan k distinct within)

-- ---- records

looked_up : {X : Type 0} (f : Site → X) (plan : List Site) (path : List ℕ)
    → lookup (λ key. is_same key path) (map (λ site. (site.path, f site)) plan) ≡ option_map f (found plan path)
looked_up f plan path = lookup-map (λ key. is_same key path) (λ (site : Site). site.path) f plan

abbrev pub record_of : (Site → NodeRecord) → Option Site → NodeRecord
record_of f site = unwrap_or (option_map f site) no_record

-- the record after a step, and before the start
pub record_of_step : (plan : List Site) (world : World) (path : List ℕ)
    → record_at (micro plan world) path
    ≡ record_of (next_record plan world) (found plan path)
record_of_step plan world path =
    ap (λ r. unwrap_or r no_record) (looked_up (next_record plan world) plan path)

pub record_of_start : (plan : List Site) (path : List ℕ)
    → record_at (initial_world plan) path ≡ record_of (λ site. initial_record site.head) (found plan path)
record_of_start plan path = ap (λ r. unwrap_or r no_record) (looked_up (λ site. initial_record site.head) plan path)

-- what holds of the records at a path, and of one that is put there, holds of the record behind
pub with_record_holds : (P : List ℕ → NodeRecord → Type 0) (nodes : List (List ℕ × NodeRecord)) (path : List ℕ)
    (r : NodeRecord) → P path r → (at : List ℕ)
    → P at (unwrap_or (lookup (λ key. is_same key at) nodes) no_record)
    → P at (unwrap_or (lookup (λ key. is_same key at) (with_entry path r nodes)) no_record)
with_record_holds P [] path r new at before = before
with_record_holds P (entry ∷ nodes) path r new at before =
    by (is_same entry.0 at) refl before (with_record_holds P nodes path r new at)
  where
    Behind : Type 0
    Behind = P at (unwrap_or (lookup (λ key. is_same key at) (with_entry path r nodes)) no_record)

    here : (c : Bool) → is_same entry.0 path ≡ c → entry.0 ≡ at → P at entry.1 → P at (if c then r else entry.1)
    here true same is old = subst (λ q. P q r) (sym ((bytes_decides entry.0 path).0 same) ∙ is) new
    here false other is old = old

    by : (b : Bool) → is_same entry.0 at ≡ b
        → P at (unwrap_or (if b then Some entry.1 else lookup (λ key. is_same key at) nodes) no_record)
        → (P at (unwrap_or (lookup (λ key. is_same key at) nodes) no_record) → Behind)
        → P at (unwrap_or (if b then Some (if is_same entry.0 path then r else entry.1)
        else lookup (λ key. is_same key at) (with_entry path r nodes)) no_record)
    by true same before others = here (is_same entry.0 path) refl ((bytes_decides entry.0 at).0 same) before
    by false other before others = others before
