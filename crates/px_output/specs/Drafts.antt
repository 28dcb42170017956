-- What a draft has of a text, and what a post adds to it.
use Rattle.std.specs.Prelude.{◌≡◌, ℕ, List, [], ◌++◌, Option, Some, None}
use Rattle.px_core.specs.Plan.{Site}
use Rattle.px_event.specs.declared.entry.Entry.{Entry}
use Rattle.px_event.specs.declared.reply.Reply.{Reply}
use Rattle.px_event.specs.declared.reply.Reply.TheVariants as replies
use Rattle.px_sem.specs.Events.{take}
use Rattle.px_sem.specs.Text.{heading_text, settled_text}
use Rattle.px_sem.specs.World.{World}

-- THE TEXT WAS GATHERED behind what the draft had, if the draft is kept; then it was kept before.
abbrev pub Keeps : Option (List ℕ) → Option (List ℕ) → List ℕ → Type 0
Keeps old None text = Unit {0}
Keeps None (Some kept) text = ⊥
Keeps (Some had) (Some kept) text = kept ≡ had ++ text

-- the same since it was new
abbrev pub Holds : Option (List ℕ) → List ℕ → Type 0
Holds draft text = Keeps (Some []) draft text

-- what a post adds to the trace: the heading and the micro steps of an event that is accepted; nothing for one that is refused
abbrev pub post_text : List Site → World → Entry → Reply → List ℕ
post_text plan world entry (replies.Accepted position) =
    heading_text position entry ++ settled_text plan (take plan world entry.event)
post_text plan world entry replies.PlanFinished = []
post_text plan world entry replies.Full = []
post_text plan world entry replies.Runaway = []
