-- The walk of the reader of command lines over words, a word at a time.
use Rattle.std.proofs.Common.{◌≡◌, ℕ, ◌&&◌, Bool, true, false, List, [], ◌∷◌, Option, Some, None, refl, ap, ap₂, ◌∙◌, inl, inr, codes}
use Rattle.std.specs.Prelude.{fold, if◌then◌else◌}
use Rattle.std.specs.Str.{bytes_eq}
use Rattle.std.proofs.lemmas.Bool.{and_right, cases_Bool, cond-false}
use Rattle.px_core.specs.Plan.{is_same}
use Rattle.clap.specs.Kinds.{Kinds, or_else}
use Rattle.clap.specs.Simple.{Shape, built, filled, with_index}
use Rattle.clap.specs.Faults.{flags_fault, settle_fault, turn_fault, walk_fault}
use Rattle.clap.specs.Walk.{Held, Row, Rule, Text, Waiting, Walk, arg_by_long, arg_by_short, idle, is_empty, is_pending, option, positional, pushed, reacted, settled, settled_rows, subcommand_met, walked, with_values}
use Rattle.clap.specs.declared.builder.value_parser.Reading.TheVariants.{AsWritten}
use Rattle.clap.specs.declared.parser.matches.ValueSource.TheVariants.{CommandLine}
use Rattle.px_words.specs.Line.{operands_rule, events_rule, plain_app}
use Rattle.px_words.proofs.Spelling.{IsPlain, IsShort, IsLong}

-- ---- the two commands: with the option, and without

abbrev pub operands_built : Rule
operands_built = with_index 1 (filled operands_rule)

abbrev pub events_built : Rule
events_built = with_index 2 (filled events_rule)

abbrev pub more_rules : Bool → List Rule
more_rules true = events_built ∷ []
more_rules false = []

abbrev pub rules : Bool → List Rule
rules limits = operands_built ∷ more_rules limits

abbrev pub shape : Bool → Shape
shape limits = record (built plain_app).top { rules = rules limits }

-- ---- where the walk stands

abbrev pub at : Held → Waiting → Bool → Walk
at held waiting is_trailing =
    record { held = held; waiting = waiting; position = 1; is_trailing = is_trailing; stopped = None }

-- what may wait between two words, where no option does
abbrev pub ready : Bool → Waiting
ready true = positional
ready false = idle

abbrev pub ending : Bool → Walk → List Text → Held
ending limits w words = (fold (walked (rules limits) []) w words).held

-- what the rest of the words comes to: rows, where no word and no pending argument fails
abbrev pub rows_by : Bool → Kinds → Held → Option (List Row)
rows_by limits faults held =
    if is_empty (or_else faults (settle_fault (rules limits) false held)) then Some (settled_rows (rules limits) held.pending held.rows) else None

abbrev pub read_on : Bool → Walk → List Text → Option (List Row)
read_on limits w words = rows_by limits (walk_fault (shape limits) [] w words) (ending limits w words)

-- where nothing that is pending fails, and these are the rows with it
pub record Settles (limits : Bool) (held : Held) (rows : List Row) : Type 0 where
  pub fault : settle_fault (rules limits) false held ≡ []
  pub found : settled_rows (rules limits) held.pending held.rows ≡ rows
  pub skip : held.skip ≡ 0

-- what is pending fails
abbrev pub IsDoomed : Bool → Held → Type 0
IsDoomed limits held = is_empty (settle_fault (rules limits) false held) ≡ false

-- ---- one word

pub no_more : (limits : Bool) (w : Walk) (rows : List Row) → Settles limits w.held rows → read_on limits w [] ≡ Some rows
unfolding walk_fault
no_more limits w rows s = rw s.fault (ap Some s.found)

pub next_word : (limits : Bool) (w next : Walk) (word : Text) (words : List Text) → turn_fault (shape limits) [] w word ≡ []
    → walked (rules limits) [] w word ≡ next → read_on limits w (word ∷ words) ≡ read_on limits next words
unfolding walk_fault
next_word limits w next word words fine is =
    ap₂ (λ (faults : Kinds) (v : Walk). rows_by limits (or_else faults (walk_fault (shape limits) [] v words)) (ending limits v words)) fine is

full_or : (a b : Kinds) → is_empty a ≡ false → is_empty (or_else a b) ≡ false
full_or [] b full = absurd (cc)
full_or (k ∷ ks) b full = full

none_by : (limits : Bool) (faults : Kinds) (held : Held) → is_empty (or_else faults (settle_fault (rules limits) false held)) ≡ false → rows_by limits faults held ≡ None
none_by limits faults held full = rw full refl

pub stops : (limits : Bool) (w : Walk) (word : Text) (words : List Text) → is_empty (turn_fault (shape limits) [] w word) ≡ false
    → read_on limits w (word ∷ words) ≡ None
unfolding walk_fault
stops limits w word words full = none_by limits _ (ending limits w (word ∷ words)) (full_or _ _ (full_or _ _ full))

pub doomed_end : (limits : Bool) (w : Walk) → IsDoomed limits w.held → read_on limits w [] ≡ None
unfolding walk_fault
doomed_end limits w doomed = none_by limits [] w.held doomed

-- ---- a word that is an operand

not_both : {A : Type 0} (test : Bool) (x y : A) → (if test && false then x else y) ≡ y
not_both test x y = cond-false (test && false) x y (and_right test false refl)

abbrev pub behind_operand : Bool → Held → Text → Held
behind_operand limits held word = pushed (codes "operands") word (settled (rules limits) held)

abbrev pub operand_row : Text → List Row → List Row
operand_row word rows = with_values (codes "operands") AsWritten CommandLine (word ∷ []) rows

pub operand_settles : (limits : Bool) (held : Held) (rows : List Row) (word : Text) → Settles limits held rows
    → Settles limits (behind_operand limits held word) (operand_row word rows)
operand_settles limits held rows word s = record { fault = refl; found = ap (operand_row word) s.found; skip = s.skip }

pub trailing_fault : (limits : Bool) (held : Held) (waiting : Waiting) (word : Text)
    → turn_fault (shape limits) [] (at held waiting true) word ≡ settle_fault (rules limits) false held
trailing_fault limits held waiting word = not_both (is_pending operands_built held.pending) [] (settle_fault (rules limits) false held)

pub trailing_on : (limits : Bool) (held : Held) (waiting : Waiting) (word : Text) (words : List Text) → settle_fault (rules limits) false held ≡ []
    → read_on limits (at held waiting true) (word ∷ words) ≡ read_on limits (at (behind_operand limits held word) positional true) words
unfolding walked
trailing_on limits held waiting word words fine =
    next_word limits (at held waiting true) _ word words (trailing_fault limits held waiting word ∙ fine)
    (ap (λ (h : Held). at (pushed (codes "operands") word h) positional true) (not_both (is_pending operands_built held.pending) held (settled (rules limits) held)))

pub plain_fault : (limits is_behind : Bool) (held : Held) (word : Text) → IsPlain word
    → turn_fault (shape limits) [] (at held (ready is_behind) false) word ≡ settle_fault (rules limits) false held
plain_fault limits true held word p = rw (p.dashes, p.long, p.short) (not_both (is_pending operands_built held.pending) [] (settle_fault (rules limits) false held))
plain_fault limits false held word p = rw (p.dashes, p.long, p.short) (not_both (is_pending operands_built held.pending) [] (settle_fault (rules limits) false held))

plain_walk : (limits is_behind : Bool) (held : Held) (word : Text) → IsPlain word
    → walked (rules limits) [] (at held (ready is_behind) false) word ≡ at (behind_operand limits held word) positional false
unfolding walked
plain_walk limits true held word p = rw (p.dashes, p.long, p.short)
    (ap (λ (h : Held). at (pushed (codes "operands") word h) positional false) (not_both (is_pending operands_built held.pending) held (settled (rules limits) held)))
plain_walk limits false held word p = rw (p.dashes, p.long, p.short)
    (ap (λ (h : Held). at (pushed (codes "operands") word h) positional false) (not_both (is_pending operands_built held.pending) held (settled (rules limits) held)))

pub plain_on : (limits is_behind : Bool) (held : Held) (word : Text) (words : List Text) → IsPlain word → settle_fault (rules limits) false held ≡ []
    → read_on limits (at held (ready is_behind) false) (word ∷ words) ≡ read_on limits (at (behind_operand limits held word) positional false) words
plain_on limits is_behind held word words p fine =
    next_word limits (at held (ready is_behind) false) _ word words (plain_fault limits is_behind held word p ∙ fine) (plain_walk limits is_behind held word p)

-- ---- a word that begins with `-`

no_subcommand : (waiting : Waiting) (word : Text) → subcommand_met [] waiting word ≡ None
no_subcommand idle word = refl
no_subcommand (option id) word = refl
no_subcommand positional word = refl

pub dashes_on : (limits : Bool) (held : Held) (waiting : Waiting) (word : Text) (words : List Text) → is_same word (codes "--") ≡ true
    → read_on limits (at held waiting false) (word ∷ words) ≡ read_on limits (at held waiting true) words
unfolding walked
dashes_on limits held waiting word words is =
    next_word limits (at held waiting false) (at held waiting true) word words (rw (no_subcommand waiting word, is) refl) (rw (no_subcommand waiting word, is) refl)

no_short : (limits : Bool) (flag : ℕ) → arg_by_short (rules limits) flag ≡ None
no_short true flag = refl
no_short false flag = refl

pub short_stops : (limits : Bool) (held : Held) (waiting : Waiting) (word : Text) (words : List Text) → held.skip ≡ 0 → IsShort word
    → read_on limits (at held waiting false) (word ∷ words) ≡ None
unfolding flags_fault
short_stops limits held waiting word words skip s =
    stops limits (at held waiting false) word words (rw (no_subcommand waiting word, s.dashes, s.long, s.short, s.begins, skip, no_short limits s.first) refl)

-- a long option is not one that there is
abbrev pub IsUnknown : Bool → Text → Type 0
IsUnknown limits name = arg_by_long (rules limits) name ≡ None

pub unknown_stops : (limits : Bool) (held : Held) (waiting : Waiting) (word : Text) (words : List Text) (l : IsLong word) → IsUnknown limits l.name
    → read_on limits (at held waiting false) (word ∷ words) ≡ None
unknown_stops limits held waiting word words l unknown =
    stops limits (at held waiting false) word words (rw (no_subcommand waiting word, l.dashes, l.long, unknown) refl)

pub other_unknown : (name : Text) → bytes_eq (codes "events") name ≡ false → IsUnknown true name
other_unknown name differs = rw differs refl

events_known : (name : Text) → bytes_eq (codes "events") name ≡ true → arg_by_long (rules true) name ≡ Some events_built
events_known name is = rw is refl

-- ---- the option

-- the option with its number
abbrev pub behind_number : Held → Text → Held
behind_number held number = reacted (rules true) events_built (number ∷ []) held

-- the option, where its number is yet to come
abbrev pub behind_name : Held → Held
behind_name held = record (settled (rules true) held) { pending = Some (codes "events", []) }

-- a use of the option, with its number
abbrev pub use_fault : Text → List Row → Kinds
use_fault number rows = Rattle.clap.specs.Faults.use_fault false events_built (number ∷ []) rows

pub number_fault : (held : Held) (waiting : Waiting) (word number : Text) (l : IsLong word) → bytes_eq (codes "events") l.name ≡ true → l.number ≡ Some number
    → turn_fault (shape true) [] (at held waiting false) word
    ≡ or_else (or_else (settle_fault (rules true) false held) (use_fault number (settled_rows (rules true) held.pending held.rows))) []
number_fault held waiting word number l is given = rw (no_subcommand waiting word, l.dashes, l.long, events_known l.name is, given) refl

pub number_on : (held : Held) (rows : List Row) (waiting : Waiting) (word number : Text) (words : List Text) (l : IsLong word) → bytes_eq (codes "events") l.name ≡ true
    → l.number ≡ Some number → Settles true held rows → use_fault number rows ≡ []
    → read_on true (at held waiting false) (word ∷ words) ≡ read_on true (at (behind_number held number) idle false) words
unfolding walked
number_on held rows waiting word number words l is given s fine =
    next_word true (at held waiting false) (at (behind_number held number) idle false) word words (number_fault held waiting word number l is given ∙ rw (s.fault, s.found, fine) refl)
    (rw (no_subcommand waiting word, l.dashes, l.long, events_known l.name is, given) refl)

pub name_fault : (held : Held) (waiting : Waiting) (word : Text) (l : IsLong word) → bytes_eq (codes "events") l.name ≡ true → l.number ≡ None
    → turn_fault (shape true) [] (at held waiting false) word ≡ or_else (settle_fault (rules true) false held) []
name_fault held waiting word l is given = rw (no_subcommand waiting word, l.dashes, l.long, events_known l.name is, given) refl

pub name_on : (held : Held) (rows : List Row) (waiting : Waiting) (word : Text) (words : List Text) (l : IsLong word) → bytes_eq (codes "events") l.name ≡ true
    → l.number ≡ None → Settles true held rows
    → read_on true (at held waiting false) (word ∷ words) ≡ read_on true (at (behind_name held) (option (codes "events")) false) words
unfolding walked
name_on held rows waiting word words l is given s =
    next_word true (at held waiting false) (at (behind_name held) (option (codes "events")) false) word words (name_fault held waiting word l is given ∙ rw s.fault refl)
    (rw (no_subcommand waiting word, l.dashes, l.long, events_known l.name is, given) refl)

-- a word that the option takes as its number
abbrev pub behind_next : Held → Text → Held
behind_next held number = pushed (codes "events") number (behind_name held)

pub taken_on : (held : Held) (word : Text) (words : List Text) → IsPlain word
    → read_on true (at (behind_name held) (option (codes "events")) false) (word ∷ words) ≡ read_on true (at (behind_next held word) idle false) words
unfolding walked
taken_on held word words p =
    next_word true (at (behind_name held) (option (codes "events")) false) (at (behind_next held word) idle false) word words
    (rw (p.dashes, p.long, p.short) refl) (rw (p.dashes, p.long, p.short) refl)

-- ---- what is pending has failed

-- a long option stops there, whether or not there is such
pub long_stops : (limits : Bool) (held : Held) (waiting : Waiting) (word : Text) (words : List Text) (l : IsLong word) → IsDoomed limits held
    → read_on limits (at held waiting false) (word ∷ words) ≡ None
long_stops false held waiting word words l doomed = unknown_stops false held waiting word words l refl
long_stops true held waiting word words l doomed = elim (cases_Bool (bytes_eq (codes "events") l.name)) [
  | inl is ↦ stops true (at held waiting false) word words (known l.number refl is)
  | inr isnt ↦ unknown_stops true held waiting word words l (other_unknown l.name isnt)
]
  where
    known : (number : Option Text) → l.number ≡ number → bytes_eq (codes "events") l.name ≡ true → is_empty (turn_fault (shape true) [] (at held waiting false) word) ≡ false
    known None given is = ap is_empty (name_fault held waiting word l is given) ∙ full_or _ _ doomed
    known (Some number) given is = ap is_empty (number_fault held waiting word number l is given) ∙ full_or _ _ (full_or _ _ doomed)

pub doomed_behind : (limits : Bool) (held : Held) (waiting : Waiting) (words : List Text) → IsDoomed limits held
    → read_on limits (at held waiting true) words ≡ None
doomed_behind limits held waiting [] doomed = doomed_end limits (at held waiting true) doomed
doomed_behind limits held waiting (word ∷ words) doomed =
    stops limits (at held waiting true) word words (ap is_empty (trailing_fault limits held waiting word) ∙ doomed)
