-- One moment more at the end of a record.
use Rattle.std.proofs.Common.{◌≡◌, ℕ, List, [], ◌∷◌, ◌++◌, refl, sym, ◌∙◌, ap}
use Rattle.std.specs.Prelude.{Result, Ok, Err, is_ok, if◌then◌else◌}
use Rattle.px_ports.specs.Moment.{overwritten}
use Rattle.px_ports.specs.Replay.{read_after, read_of}
use Rattle.px_ports.specs.declared.moment.Moment.{Moment}
use Rattle.px_ports.specs.declared.moment.Moment.TheVariants.{Began, Wrote, FailedToWrite, Synced}

read_after-append : (read : List ℕ) (moments more : List Moment) → read_after read (moments ++ more) ≡ read_after (read_after read moments) more
read_after-append read [] more = refl
read_after-append read (Began bytes ∷ moments) more = read_after-append bytes moments more
read_after-append read (Wrote at bytes ∷ moments) more = read_after-append (overwritten at bytes read) moments more
read_after-append read (FailedToWrite at n ∷ moments) more = read_after-append read moments more
read_after-append read (Synced ∷ moments) more = read_after-append read moments more

-- what a read gives after one moment more
pub read_of-push : (moments later : List Moment) (moment : Moment) → later ≡ moments ++ moment ∷ [] → read_of later ≡ read_after (read_of moments) (moment ∷ [])
read_of-push moments later moment is = ap read_of is ∙ read_after-append [] moments (moment ∷ [])

-- the same where the moment is added or not, and changes no byte
pub read_of-kept : {T E : Type 0} (r : Result T E) (moments later : List Moment) (moment : Moment) → read_after (read_of moments) (moment ∷ []) ≡ read_of moments
    → later ≡ (if is_ok r then moments ++ moment ∷ [] else moments) → read_of moments ≡ read_of later
read_of-kept (Ok x) moments later moment same is = sym (read_of-push moments later moment is ∙ same)
read_of-kept (Err e) moments later moment same is = ap read_of (sym is)
