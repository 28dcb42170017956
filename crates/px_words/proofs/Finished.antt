-- The reader of command lines as a whole: it has no subcommands, no defaults, and nothing that has to stand.
use Rattle.std.proofs.Common.{◌≡◌, ◌∙◌, Bool, true, false, List, [], ◌∷◌, Option, Some, None, refl, ap, ap₂, map, String}
use Rattle.std.specs.Prelude.{◌||◌, if◌then◌else◌, option_and_then, option_map}
use Rattle.std.specs.String.{string_bytes}
use Rattle.std.proofs.lemmas.Bool.{cond-true, or_right}
use Rattle.std.proofs.Padding.{cond_same}
use Rattle.clap.specs.Words.{App, Row, Text}
use Rattle.clap.specs.Kinds.{Kinds, or_else}
use Rattle.clap.specs.Faults.{walk_fault, settle_fault, defaults_fault, check_fault, fault_of, level_fault}
use Rattle.clap.specs.Simple.{built}
use Rattle.clap.proofs.FaultLemmas.{leaf_fault}
use Rattle.clap.specs.Walk.{Held, Walk, finished, is_empty, nothing_held, idle, settled_rows}
use Rattle.px_words.specs.Limited.{Limited, event_limit, with_limit, with_front, limited}
use Rattle.px_words.specs.Line.{line_in, plain_app, limited_app, rows_read}
use Rattle.px_words.specs.Operands.{operands}
use Rattle.px_words.proofs.Walking.{Settles, at, ending, read_on, rules, shape}
use Rattle.px_words.proofs.Reading.{a_limit, limits_on, unlimited, texts_are}

abbrev app : Bool → App
app true = limited_app
app false = plain_app

same_both : {A : Type 0} (test : Bool) (x : A) → (if test then x else x) ≡ x
same_both test x = cond_same test x x x refl refl

any_or : {A : Type 0} (test : Bool) (x y : A) → (if test || true then x else y) ≡ x
any_or test x y = cond-true (test || true) x y (or_right test true refl)

no_default : (limits : Bool) (rows : List Row) → defaults_fault rows (rules limits) ≡ []
unfolding defaults_fault
no_default true rows = rw (any_or _ _ _, any_or _ _ _) refl
no_default false rows = rw (any_or _ _ _) refl

none_added : (limits : Bool) (held : Held) → finished (rules limits) held ≡ settled_rows (rules limits) held.pending held.rows
none_added true held = same_both _ _ ∙ same_both _ _
none_added false held = same_both _ _

nothing_else : (limits : Bool) (rows : List Row) → check_fault (shape limits) rows false ≡ []
nothing_else true rows = refl
nothing_else false rows = refl

or_none : (kinds : Kinds) → or_else kinds [] ≡ kinds
or_none [] = refl
or_none (k ∷ ks) = refl

abbrev start : Walk
start = at nothing_held idle false

-- the faults of the words, of what is pending, of the defaults, and of what has to stand
each_fault : (limits : Bool) (words : List Text) → fault_of (app limits) words ≡ level_fault (shape limits) [] nothing_held words false []
each_fault true words = leaf_fault (built limited_app) nothing_held words refl
each_fault false words = leaf_fault (built plain_app) nothing_held words refl

all_faults : (limits : Bool) (words : List Text)
    → fault_of (app limits) words ≡ or_else (walk_fault (shape limits) [] start words) (settle_fault (rules limits) false (ending limits start words))
all_faults limits words =
    let end = ending limits start words in
    each_fault limits words
    ∙ rw (no_default limits (settled_rows (rules limits) end.pending end.rows), nothing_else limits (finished (rules limits) end)) (ap (or_else _) (or_none _))

reads : (limits : Bool) (words : List Text) → rows_read (app limits) words ≡ read_on limits start words
reads true words = ap₂ (λ (faults : Kinds) (rows : List Row). if is_empty faults then Some rows else None) (all_faults true words) (none_added true (ending true start words))
reads false words = ap₂ (λ (faults : Kinds) (rows : List Row). if is_empty faults then Some rows else None) (all_faults false words) (none_added false (ending false start words))

no_front : (o : Option Limited) → option_map (with_front []) o ≡ o
no_front None = refl
no_front (Some found) = refl

nothing_settles : (limits : Bool) → Settles limits nothing_held []
nothing_settles limits = record { fault = refl; found = refl; skip = refl }

pub limited_read : {Z : Type 0} (words : List (String Z)) → option_and_then line_in (rows_read limited_app (map string_bytes words)) ≡ limited (map string_bytes words)
limited_read words =
    ap (option_and_then line_in) (reads true (map string_bytes words))
    ∙ limits_on nothing_held [] false (map string_bytes words) (nothing_settles true) refl (texts_are words) ∙ no_front (limited (map string_bytes words))

pub plain_read : {Z : Type 0} (words : List (String Z))
    → option_and_then line_in (rows_read plain_app (map string_bytes words)) ≡ option_map (with_limit event_limit) (operands (map string_bytes words))
plain_read words =
    ap (option_and_then line_in) (reads false (map string_bytes words))
    ∙ unlimited false nothing_held [] false (map string_bytes words) (nothing_settles false) tt (texts_are words) ∙ a_limit [] event_limit _ ∙ no_front _
