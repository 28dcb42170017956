-- What a line says by its first word.
use Rattle.std.proofs.Common.{◌≡◌, ℕ, true, false, List, refl, None}
use Rattle.std.specs.Prelude.{codes}
use Rattle.std.specs.Str.{IsUtf8}
use Rattle.std.proofs.lemmas.Str.{is_utf8-from_IsUtf8}
use Rattle.px_value.proofs.General.{not_utf8}
use Rattle.px_core.specs.Plan.{Site, is_same}
use Rattle.px_script.specs.NodeLine.{return_line}
use Rattle.px_script.specs.ParsedLine.{said_in_text, said}
use Rattle.px_script.specs.Text.{first_word, behind_word}
use Rattle.px_script.specs.WaitLine.{wait_line}

pub return_row : (plan : List Site) (text : List ℕ) → is_same (codes "set") (first_word text) ≡ false → is_same (codes "handle") (first_word text) ≡ false
    → is_same (codes "return") (first_word text) ≡ true → said_in_text plan text ≡ return_line plan (behind_word text)
return_row plan text set handle return = rw (set, handle, return) refl

pub wait_row : (plan : List Site) (text : List ℕ) → is_same (codes "set") (first_word text) ≡ false → is_same (codes "handle") (first_word text) ≡ false
    → is_same (codes "return") (first_word text) ≡ false → is_same (codes "abort") (first_word text) ≡ false → is_same (codes "ack") (first_word text) ≡ false
    → is_same (codes "wait") (first_word text) ≡ true → said_in_text plan text ≡ wait_line plan (behind_word text)
wait_row plan text set handle return abort ack wait = rw (set, handle, return, abort, ack, wait) refl

-- bytes that don't begin with `thread` and aren't text
pub no_text : (plan : List Site) (line : List ℕ) → is_same (codes "thread") (first_word line) ≡ false → (IsUtf8 line → ⊥) → None ≡ said plan line
no_text plan line unnamed other = rw (unnamed, not_utf8 line other) refl

pub text_says : (plan : List Site) (line : List ℕ) → is_same (codes "thread") (first_word line) ≡ false → IsUtf8 line → said_in_text plan line ≡ said plan line
text_says plan line unnamed utf8 = rw (unnamed, is_utf8-from_IsUtf8 line utf8) refl
