-- Rows by number: each row's site stands over its parent's, and a look-up by path finds it.
use Rattle.std.proofs.Common.{◌≡◌, ℕ, zero, suc, ◌+◌, ◌<◌, List, [], ◌∷◌, ◌++◌, length, get_or}
use Rattle.std.proofs.Common.{refl, ap, sym, ◌∙◌, subst, arith, length-append, zero-add}
use Rattle.std.proofs.Common.{add-zero, rules}
use Rattle.std.specs.Option.{unwrap_or}
use Rattle.std.proofs.lemmas.List.{get_or_append_left}
use Rattle.std.proofs.Math.Seq.{get_or-append_seam}
use Rattle.std.proofs.lemmas.Grind.{common_steps}
use Rattle.px_core.specs.Fit.{AreDistinct}
use Rattle.px_core.specs.Plan.{Site, no_site, site_at}
use Rattle.px_core.proofs.Paths.{found_itself}
use Rattle.px_sem.specs.World as world
use Rattle.px_flat.specs.declared.row.Row.{Row}
use Rattle.px_flat.specs.Rows.{site_of, grown, sites_of, IsBefore, IsLaid, IsLinked}

-- ---- sites of rows

pub length-grown : (sites : List Site) (rows : List Row)
    → length (grown sites rows) ≡ length sites + length rows
length-grown sites [] = omega arith
length-grown sites (row ∷ rows) =
    grind (arith, common_steps, length-append, length-grown (sites ++ site_of sites row ∷ []) rows)

-- what is there stays
pub grown_before : (sites : List Site) (rows : List Row) (i : ℕ) (d : Site) → i < length sites
    → get_or (grown sites rows) i d ≡ get_or sites i d
grown_before sites [] i d h = refl
grown_before sites (row ∷ rows) i d h =
    grown_before (sites ++ site_of sites row ∷ []) rows i d
    (omega (arith, length-append sites (site_of sites row ∷ [])))
    ∙ get_or_append_left sites (site_of sites row ∷ []) d i h

-- a row whose parent is there is the same site over more sites
site_of_more : (sites more : List Site) (row : Row) → IsBefore (length sites) row
    → ((j : ℕ) (d : Site) → j < length sites → get_or more j d ≡ get_or sites j d)
    → site_of sites row ≡ site_of more row
site_of_more sites more row before same = search rules

-- each row is a site over the whole list, where its parent stands before it
grown_at : (sites : List Site) (rows : List Row) (i : ℕ) (d : Site) (e : Row) → i < length rows
    → ((k : ℕ) (e : Row) → k < length rows → IsBefore (length sites + k) (get_or rows k e))
    → get_or (grown sites rows) (length sites + i) d ≡ site_of (grown sites rows) (get_or rows i e)
grown_at sites [] i d e h before = absurd (omega arith)
grown_at sites (row ∷ rows) zero d e h before =
    let longer : List Site = sites ++ site_of sites row ∷ [] in
    let room : length sites < length longer = omega (arith, length-append sites (site_of sites row ∷ [])) in
    rw add-zero
    (grown_before longer rows (length sites) d room
    ∙ get_or-append_seam sites (site_of sites row) [] d
    ∙ site_of_more sites (grown longer rows) row (rw add-zero at (before 0 e (omega arith)))
    (λ j d h. grown_before longer rows j d (omega arith) ∙ get_or_append_left sites (site_of sites row ∷ []) d j h))
grown_at sites (row ∷ rows) (suc i) d e h before =
    let longer : List Site = sites ++ site_of sites row ∷ [] in
    let long : length longer ≡ length sites + 1 = length-append sites (site_of sites row ∷ []) in
    let shift : (k : ℕ) → length sites + suc k ≡ length longer + k = λ k. omega arith in
    rw (shift i)
    (grown_at longer rows i d e (omega arith)
    (λ k e h. subst (λ n. IsBefore n (get_or rows k e)) (shift k) (before (suc k) e (omega arith))))

pub length-sites_of : (rows : List Row) → length (sites_of rows) ≡ length rows
length-sites_of rows = omega (arith, length-grown [] rows)

pub site_at_linked : (rows : List Row) → IsLinked rows → (i : ℕ) (d : Site) (e : Row) → i < length rows
    → get_or (sites_of rows) i d ≡ site_of (sites_of rows) (get_or rows i e)
site_at_linked rows linked i d e h =
    rw zero-add at (grown_at [] rows i d e h
    (λ k e h. subst (λ n. IsBefore n (get_or rows k e)) (sym (zero-add k)) (linked k e h)))

pub site_at_number : (rows : List Row) → IsLaid rows → (i : ℕ) (d : Site) (e : Row) → i < length rows
    → get_or (sites_of rows) i d ≡ site_of (sites_of rows) (get_or rows i e)
site_at_number rows laid i d e h = site_at_linked rows laid.linked i d e h

-- one row more is one site more
pub grown-push : (sites : List Site) (rows : List Row) (row : Row)
    → grown sites (rows ++ row ∷ []) ≡ grown sites rows ++ site_of (grown sites rows) row ∷ []
grown-push sites [] row = refl
grown-push sites (first ∷ rows) row = grown-push (sites ++ site_of sites first ∷ []) rows row

-- ---- look-ups by path

pub found_site : (sites : List Site) (i : ℕ) → AreDistinct sites → i < length sites
    → site_at sites (get_or sites i no_site).path ≡ get_or sites i no_site
found_site sites i distinct h = ap (λ found. unwrap_or found no_site) (found_itself sites i distinct h)
