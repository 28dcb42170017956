-- Names and paths are text.
use Rattle.std.proofs.Common.{◌≡◌, ℕ, true, List}
use Rattle.std.specs.Prelude.{nat_le, length}
use Rattle.std.specs.Str.{is_utf8}
use Rattle.std.proofs.lemmas.Bool.{and_parts}
use Rattle.std.proofs.lemmas.Str.{is_utf8-from_IsUtf8}
use Rattle.px_value.specs.Name.{is_identifier}
use Rattle.px_value.specs.Path.{is_path}
use Rattle.px_value.proofs.Ascii as ascii
use Rattle.px_event.specs.Fit.{is_report_name}

pub report_name_text : (name : List ℕ) → is_report_name name ≡ true → is_utf8 name ≡ true
report_name_text name h =
    is_utf8-from_IsUtf8 name (ascii.identifier_text name (and_parts (is_identifier name) (nat_le (length name) 64) h).0)

pub path_text : (node : List ℕ) → is_path node ≡ true → is_utf8 node ≡ true
path_text node h = is_utf8-from_IsUtf8 node (ascii.path_text node h)
