-- An entry that is read is the entry that was spelled, and one that was spelled is read again.
use Rattle.std.proofs.Common.{◌≡◌, ℕ, zero, suc, ◌^◌, ◌<◌, ◌≤◌, Bool, true, List, [], ◌∷◌, ◌++◌, length, Some, refl, sym, ap, subst, ◌∙◌, append_assoc, arith}
use Rattle.std.specs.Prelude.{◌&&◌, nat_le, nat_lt, IsTrue, Result, IfOk, IsErrOf}
use Rattle.std.specs.List.{list_all, flat_map}
use Rattle.std.proofs.lemmas.Bool.{and_parts, and_from, leb-true, ltb-true, lt-ltb}
use Rattle.std.proofs.lemmas.List.{length-append}
use Rattle.std.proofs.lemmas.Option.{same_Some}
use Rattle.byteorder.specs.Endian.{big_bytes}
use Rattle.px_value.specs.Name.{is_identifier, is_name}
use Rattle.px_value.specs.Path.{is_path, pieces}
use Rattle.px_value.specs.declared.enums.Handle.{Handle}
use Rattle.px_value.specs.declared.enums.Handle.TheVariants as handles
use Rattle.px_value.specs.declared.value.Value.{Value}
use Rattle.px_event.specs.Fit.{entry_of, is_report_name, is_fit_event, is_thread, is_fit_entry}
use Rattle.px_event.specs.Values.{is_plain, is_plain_or_unknown}
use Rattle.px_event.specs.Bytes.{text_bytes, value_bytes, handle_code, event_bytes, entry_bytes}
use Rattle.px_event.specs.Reading.{Read, ◌>>=◌, only, is_count, is_line, byte_at, number_at, name_at, path_at, value_at, arguments_at, handle_of, handle_at, report_at, handle_event_at, return_at, event_behind, event_at, source_at, entry_at, decoded, Gives}
use Rattle.px_event.specs.declared.fault.DecodeFault.{DecodeFault}
use Rattle.px_event.specs.declared.fault.DecodeFault.TheVariants.{Bad}
use Rattle.px_event.specs.declared.event.Event.{Event}
use Rattle.px_event.specs.declared.event.Event.TheVariants as events
use Rattle.px_event.specs.declared.entry.Entry.{Entry}
use Rattle.px_event.proofs.Spelled.{report_name_text, path_text}
use Rattle.px_event.proofs.Fields.{tagged, IsBytes, bind_some, after, only_some, only_passes, Takes, Takes-then, byte_takes, four_back, number_takes, number_again, tested_takes, tested_again}
use Rattle.px_event.proofs.Wholes.{all_takes, all_again, answers, answers_bad, one_spelled}
use Rattle.px_event.proofs.ToldValues.{value_takes, value_again, arguments_takes, arguments_again, value_short, arguments_short}

-- ---- names, paths and handles

name_takes : (bytes name rest : List ℕ) → IsBytes bytes → name_at bytes ≡ Some (name, rest) → Takes bytes (text_bytes name) rest × (is_report_name name ≡ true)
unfolding name_at
name_takes bytes name rest fits e = let t = tested_takes is_report_name bytes name rest fits e in (t.0, t.1)

pub name_below : (name : List ℕ) → is_report_name name ≡ true → length name ≤ 64
name_below name fit = leb-true (length name) 64 (and_parts (is_identifier name) (nat_le (length name) 64) fit).1

name_again : (name rest : List ℕ) → is_report_name name ≡ true → name_at (text_bytes name ++ rest) ≡ Some (name, rest)
unfolding name_at
name_again name rest fit =
    let short = name_below name fit in
    tested_again is_report_name name rest (omega arith) (report_name_text name fit) fit

path_takes : (bytes node rest : List ℕ) → IsBytes bytes → path_at bytes ≡ Some (node, rest) → Takes bytes (text_bytes node) rest × (is_path node ≡ true)
unfolding path_at
path_takes bytes node rest fits e = let t = tested_takes is_path bytes node rest fits e in (t.0, t.1)

path_below : (node : List ℕ) → is_path node ≡ true → length node ≤ 5000
path_below node fit = leb-true (length node) 5000 (and_parts (list_all is_name (pieces node)) (nat_le (length node) 5000) fit).1

path_again : (node rest : List ℕ) → is_path node ≡ true → path_at (text_bytes node ++ rest) ≡ Some (node, rest)
unfolding path_at
path_again node rest fit =
    let short = path_below node fit in
    tested_again is_path node rest (omega arith) (path_text node fit) fit

handle_of-code : (code : ℕ) (handle : Handle) → handle_of code ≡ Some handle → code ≡ handle_code handle
unfolding handle_of
handle_of-code zero handle e = absurd cc
handle_of-code (suc zero) handle e = ap handle_code (same_Some handles.CommandSentToSystem handle e)
handle_of-code (suc (suc zero)) handle e = ap handle_code (same_Some handles.CommandAccepted handle e)
handle_of-code (suc (suc (suc zero))) handle e = ap handle_code (same_Some handles.CommandRcvdBySystem handle e)
handle_of-code (suc (suc (suc (suc zero)))) handle e = ap handle_code (same_Some handles.CommandFailed handle e)
handle_of-code (suc (suc (suc (suc (suc zero))))) handle e = ap handle_code (same_Some handles.CommandDenied handle e)
handle_of-code (suc (suc (suc (suc (suc (suc zero)))))) handle e = ap handle_code (same_Some handles.CommandSuccess handle e)
handle_of-code (suc (suc (suc (suc (suc (suc (suc code))))))) handle e = absurd cc

code-handle_of : (handle : Handle) → handle_of (handle_code handle) ≡ Some handle
unfolding handle_of
code-handle_of handles.CommandSentToSystem = refl
code-handle_of handles.CommandAccepted = refl
code-handle_of handles.CommandRcvdBySystem = refl
code-handle_of handles.CommandFailed = refl
code-handle_of handles.CommandDenied = refl
code-handle_of handles.CommandSuccess = refl

abbrev handle_read : List ℕ → Handle → Read Handle
handle_read rest handle = Some (handle, rest)

handle_takes : (bytes : List ℕ) (read : Handle × List ℕ) → IsBytes bytes → handle_at bytes ≡ Some read → Takes bytes (handle_code read.0 ∷ []) read.1
unfolding handle_at
handle_takes bytes read fits e =
    let b = bind_some (byte_at bytes) (λ code. handle_of code.0 >>= handle_read code.1) read e in
    let t = byte_takes bytes b.0.0 b.0.1 fits b.1 in
    let d = bind_some (handle_of b.0.0) (handle_read b.0.1) read b.2 in
    let spelled : Takes bytes (handle_code d.0 ∷ []) b.0.1 = subst (λ (k : ℕ). Takes bytes (k ∷ []) b.0.1) (handle_of-code b.0.0 d.0 d.1) t.0 in
    subst (λ (p : Handle × List ℕ). Takes bytes (handle_code p.0 ∷ []) p.1) (same_Some (d.0, b.0.1) read d.2) spelled

handle_again : (handle : Handle) (rest : List ℕ) → handle_at (handle_code handle ∷ rest) ≡ Some (handle, rest)
unfolding handle_at
handle_again handle rest = after (handle_of (handle_code handle)) (handle_read rest) handle _ (code-handle_of handle) refl

-- ---- events

abbrev Happened : List ℕ → ℕ → Event × List ℕ → Type 0
Happened bytes kind read = Takes (kind ∷ bytes) (event_bytes read.0) read.1 × (is_fit_event read.0 ≡ true)

abbrev report_read : List ℕ → List Value → Value × List ℕ → Read Event
report_read name args value = Some (events.Report name args value.0, value.1)

abbrev value_then : List ℕ → List Value × List ℕ → Read Event
value_then name args = value_at args.1 >>= report_read name args.0

abbrev arguments_then : List ℕ → ℕ × List ℕ → Read Event
arguments_then name count = arguments_at count.0 count.1 >>= value_then name

abbrev count_then : List ℕ → ℕ × List ℕ → Read Event
count_then name byte = only is_count byte >>= arguments_then name

abbrev name_then : List ℕ × List ℕ → Read Event
name_then name = byte_at name.1 >>= count_then name.0

report_takes : (bytes : List ℕ) (read : Event × List ℕ) → IsBytes bytes → report_at bytes ≡ Some read → Happened bytes 1 read
unfolding report_at
report_takes bytes read fits e =
    let n = bind_some (name_at bytes) name_then read e in
    let name = n.0.0 in
    let nt = name_takes bytes name n.0.1 fits n.1 in
    let b = bind_some (byte_at n.0.1) (count_then name) read n.2 in
    let bt = byte_takes n.0.1 b.0.0 b.0.1 nt.0.rest_fits b.1 in
    let c = bind_some (only is_count b.0) (arguments_then name) read b.2 in
    let o = only_some is_count b.0 c.0 c.1 in
    let ct : Takes n.0.1 (c.0.0 ∷ []) c.0.1 = subst (λ (p : ℕ × List ℕ). Takes n.0.1 (p.0 ∷ []) p.1) o.1 bt.0 in
    let few : is_count c.0.0 ≡ true = subst (λ (p : ℕ × List ℕ). is_count p.0 ≡ true) o.1 o.0 in
    let a = bind_some (arguments_at c.0.0 c.0.1) (value_then name) read c.2 in
    let args = a.0.0 in
    let at = arguments_takes c.0.0 c.0.1 a.0 ct.rest_fits a.1 in
    let v = bind_some (value_at a.0.1) (report_read name args) read a.2 in
    let vt = value_takes a.0.1 v.0 at.0.rest_fits v.1 in
    let counted : Takes n.0.1 (length args ∷ []) c.0.1 = subst (λ (k : ℕ). Takes n.0.1 (k ∷ []) c.0.1) (sym at.2) ct in
    let few_args : is_count (length args) ≡ true = subst (λ (k : ℕ). is_count k ≡ true) (sym at.2) few in
    let told = Takes-then c.0.1 (flat_map value_bytes args) a.0.1 (value_bytes v.0.0) v.0.1 at.0 vt.0 in
    let behind = Takes-then n.0.1 (length args ∷ []) c.0.1 (flat_map value_bytes args ++ value_bytes v.0.0) v.0.1 counted told in
    let whole = Takes-then bytes (text_bytes name) n.0.1 (length args ∷ (flat_map value_bytes args ++ value_bytes v.0.0)) v.0.1 nt.0 behind in
    let fit : is_fit_event (events.Report name args v.0.0) ≡ true =
    and_from (is_report_name name && is_count (length args) && list_all is_plain args) (is_plain_or_unknown v.0.0)
    (and_from (is_report_name name && is_count (length args)) (list_all is_plain args) (and_from (is_report_name name) (is_count (length args)) nt.1 few_args) at.1) vt.1 in
    subst (Happened bytes 1) (same_Some (events.Report name args v.0.0, v.0.1) read v.2)
    (tagged 1 bytes (text_bytes name ++ (length args ∷ (flat_map value_bytes args ++ value_bytes v.0.0))) v.0.1 whole, fit)

report_again : (name : List ℕ) (args : List Value) (value : Value) (rest : List ℕ) → is_fit_event (events.Report name args value) ≡ true
    → report_at ((text_bytes name ++ (length args ∷ (flat_map value_bytes args ++ value_bytes value))) ++ rest) ≡ Some (events.Report name args value, rest)
unfolding report_at
report_again name args value rest fit =
    let last = and_parts (is_report_name name && is_count (length args) && list_all is_plain args) (is_plain_or_unknown value) fit in
    let third = and_parts (is_report_name name && is_count (length args)) (list_all is_plain args) last.0 in
    let first = and_parts (is_report_name name) (is_count (length args)) third.0 in
    let told = value_bytes value ++ rest in
    let values = flat_map value_bytes args ++ told in
    let behind = length args ∷ values in
    let parts : (text_bytes name ++ (length args ∷ (flat_map value_bytes args ++ value_bytes value))) ++ rest ≡ text_bytes name ++ behind =
    append_assoc (text_bytes name) (length args ∷ (flat_map value_bytes args ++ value_bytes value)) rest
    ∙ ap (λ (l : List ℕ). text_bytes name ++ (length args ∷ l)) (append_assoc (flat_map value_bytes args) (value_bytes value) rest) in
    ap (λ (l : List ℕ). name_at l >>= name_then) parts
    ∙ after (name_at (text_bytes name ++ behind)) name_then (name, behind) _ (name_again name behind first.0)
    (after (only is_count (length args, values)) (arguments_then name) (length args, values) _ (only_passes is_count (length args, values) first.1)
    (after (arguments_at (length args) values) (value_then name) (args, told) _ (arguments_again args told third.1)
    (after (value_at told) (report_read name args) (value, rest) _ (value_again value rest last.1) refl)))

abbrev handle_then : List ℕ × List ℕ → Read Event
handle_then node = handle_at node.1 >>= λ handle. Some (events.Handle node.0 handle.0, handle.1)

handle_event_takes : (bytes : List ℕ) (read : Event × List ℕ) → IsBytes bytes → handle_event_at bytes ≡ Some read → Happened bytes 2 read
unfolding handle_event_at
handle_event_takes bytes read fits e =
    let n = bind_some (path_at bytes) handle_then read e in
    let nt = path_takes bytes n.0.0 n.0.1 fits n.1 in
    let h = bind_some (handle_at n.0.1) (λ handle. Some (events.Handle n.0.0 handle.0, handle.1)) read n.2 in
    let ht = handle_takes n.0.1 h.0 nt.0.rest_fits h.1 in
    let whole = Takes-then bytes (text_bytes n.0.0) n.0.1 (handle_code h.0.0 ∷ []) h.0.1 nt.0 ht in
    subst (Happened bytes 2) (same_Some (events.Handle n.0.0 h.0.0, h.0.1) read h.2)
    (tagged 2 bytes (text_bytes n.0.0 ++ handle_code h.0.0 ∷ []) h.0.1 whole, nt.1)

handle_event_again : (node : List ℕ) (handle : Handle) (rest : List ℕ) → is_path node ≡ true
    → handle_event_at ((text_bytes node ++ handle_code handle ∷ []) ++ rest) ≡ Some (events.Handle node handle, rest)
unfolding handle_event_at
handle_event_again node handle rest fit =
    let parts : (text_bytes node ++ handle_code handle ∷ []) ++ rest ≡ text_bytes node ++ handle_code handle ∷ rest = append_assoc (text_bytes node) (handle_code handle ∷ []) rest in
    ap (λ (l : List ℕ). path_at l >>= handle_then) parts
    ∙ after (path_at (text_bytes node ++ handle_code handle ∷ rest)) handle_then (node, handle_code handle ∷ rest) _ (path_again node (handle_code handle ∷ rest) fit)
    (after (handle_at (handle_code handle ∷ rest)) (λ read. Some (events.Handle node read.0, read.1)) (handle, rest) _ (handle_again handle rest) refl)

abbrev return_then : List ℕ × List ℕ → Read Event
return_then node = value_at node.1 >>= λ value. Some (events.Return node.0 value.0, value.1)

return_takes : (bytes : List ℕ) (read : Event × List ℕ) → IsBytes bytes → return_at bytes ≡ Some read → Happened bytes 3 read
unfolding return_at
return_takes bytes read fits e =
    let n = bind_some (path_at bytes) return_then read e in
    let nt = path_takes bytes n.0.0 n.0.1 fits n.1 in
    let v = bind_some (value_at n.0.1) (λ value. Some (events.Return n.0.0 value.0, value.1)) read n.2 in
    let vt = value_takes n.0.1 v.0 nt.0.rest_fits v.1 in
    let whole = Takes-then bytes (text_bytes n.0.0) n.0.1 (value_bytes v.0.0) v.0.1 nt.0 vt.0 in
    subst (Happened bytes 3) (same_Some (events.Return n.0.0 v.0.0, v.0.1) read v.2)
    (tagged 3 bytes (text_bytes n.0.0 ++ value_bytes v.0.0) v.0.1 whole, and_from (is_path n.0.0) (is_plain_or_unknown v.0.0) nt.1 vt.1)

return_again : (node : List ℕ) (value : Value) (rest : List ℕ) → is_fit_event (events.Return node value) ≡ true
    → return_at ((text_bytes node ++ value_bytes value) ++ rest) ≡ Some (events.Return node value, rest)
unfolding return_at
return_again node value rest fit =
    let both = and_parts (is_path node) (is_plain_or_unknown value) fit in
    let parts : (text_bytes node ++ value_bytes value) ++ rest ≡ text_bytes node ++ (value_bytes value ++ rest) = append_assoc (text_bytes node) (value_bytes value) rest in
    ap (λ (l : List ℕ). path_at l >>= return_then) parts
    ∙ after (path_at (text_bytes node ++ (value_bytes value ++ rest))) return_then (node, value_bytes value ++ rest) _ (path_again node (value_bytes value ++ rest) both.0)
    (after (value_at (value_bytes value ++ rest)) (λ read. Some (events.Return node read.0, read.1)) (value, rest) _ (value_again value rest both.1) refl)

abbrev node_read : (List ℕ → Event) → List ℕ × List ℕ → Read Event
node_read make node = Some (make node.0, node.1)

event_behind_takes : (kind : ℕ) (bytes : List ℕ) (read : Event × List ℕ) → IsBytes bytes → event_behind kind bytes ≡ Some read → Happened bytes kind read
unfolding event_behind
event_behind_takes zero bytes read fits e = absurd cc
event_behind_takes (suc zero) bytes read fits e = report_takes bytes read fits e
event_behind_takes (suc (suc zero)) bytes read fits e = handle_event_takes bytes read fits e
event_behind_takes (suc (suc (suc zero))) bytes read fits e = return_takes bytes read fits e
event_behind_takes (suc (suc (suc (suc zero)))) bytes read fits e =
    let n = bind_some (path_at bytes) (node_read events.AbortDone) read e in
    let nt = path_takes bytes n.0.0 n.0.1 fits n.1 in
    subst (Happened bytes 4) (same_Some (events.AbortDone n.0.0, n.0.1) read n.2) (tagged 4 bytes (text_bytes n.0.0) n.0.1 nt.0, nt.1)
event_behind_takes (suc (suc (suc (suc (suc zero))))) bytes read fits e =
    let n = bind_some (path_at bytes) (node_read events.Acknowledged) read e in
    let nt = path_takes bytes n.0.0 n.0.1 fits n.1 in
    subst (Happened bytes 5) (same_Some (events.Acknowledged n.0.0, n.0.1) read n.2) (tagged 5 bytes (text_bytes n.0.0) n.0.1 nt.0, nt.1)
event_behind_takes (suc (suc (suc (suc (suc (suc kind)))))) bytes read fits e = absurd cc

pub event_takes : (bytes : List ℕ) (read : Event × List ℕ) → IsBytes bytes → event_at bytes ≡ Some read → Takes bytes (event_bytes read.0) read.1 × (is_fit_event read.0 ≡ true)
unfolding event_at
event_takes bytes read fits e =
    let b = bind_some (byte_at bytes) (λ kind. event_behind kind.0 kind.1) read e in
    let t = byte_takes bytes b.0.0 b.0.1 fits b.1 in
    subst (λ (l : List ℕ). Takes l (event_bytes read.0) read.1 × (is_fit_event read.0 ≡ true)) (sym t.0.parts) (event_behind_takes b.0.0 b.0.1 read t.0.rest_fits b.2)

pub event_again : (event : Event) (rest : List ℕ) → is_fit_event event ≡ true → event_at (event_bytes event ++ rest) ≡ Some (event, rest)
unfolding event_at event_behind
event_again (events.Report name args value) rest fit = report_again name args value rest fit
event_again (events.Handle node handle) rest fit = handle_event_again node handle rest fit
event_again (events.Return node value) rest fit = return_again node value rest fit
event_again (events.AbortDone node) rest fit =
    after (path_at (text_bytes node ++ rest)) (node_read events.AbortDone) (node, rest) _ (path_again node rest fit) refl
event_again (events.Acknowledged node) rest fit =
    after (path_at (text_bytes node ++ rest)) (node_read events.Acknowledged) (node, rest) _ (path_again node rest fit) refl

-- ---- where an entry comes from

abbrev Source : Type 0
Source = ℕ × ℕ

abbrev pub is_source : Source → Bool
is_source source = is_thread source.0 && is_line source.1 && nat_lt source.1 (2 ^ 32)

abbrev pub source_bytes : Source → List ℕ
source_bytes source = source.0 ∷ big_bytes 4 source.1

abbrev source_read : ℕ → ℕ × List ℕ → Read Source
source_read thread line = Some ((thread, line.0), line.1)

abbrev line_then : ℕ → ℕ × List ℕ → Read Source
line_then thread number = only is_line number >>= source_read thread

abbrev number_then : ℕ × List ℕ → Read Source
number_then thread = number_at 4 thread.1 >>= line_then thread.0

abbrev thread_then : ℕ × List ℕ → Read Source
thread_then byte = only is_thread byte >>= number_then

pub source_takes : (bytes : List ℕ) (read : Source × List ℕ) → IsBytes bytes → source_at bytes ≡ Some read → Takes bytes (source_bytes read.0) read.1 × (is_source read.0 ≡ true)
unfolding source_at
source_takes bytes read fits e =
    let b = bind_some (byte_at bytes) thread_then read e in
    let bt = byte_takes bytes b.0.0 b.0.1 fits b.1 in
    let t = bind_some (only is_thread b.0) number_then read b.2 in
    let to = only_some is_thread b.0 t.0 t.1 in
    let tt' : Takes bytes (t.0.0 ∷ []) t.0.1 = subst (λ (p : ℕ × List ℕ). Takes bytes (p.0 ∷ []) p.1) to.1 bt.0 in
    let is : is_thread t.0.0 ≡ true = subst (λ (p : ℕ × List ℕ). is_thread p.0 ≡ true) to.1 to.0 in
    let n = bind_some (number_at 4 t.0.1) (line_then t.0.0) read t.2 in
    let nt = number_takes 4 four_back t.0.1 n.0.0 n.0.1 tt'.rest_fits n.1 in
    let l = bind_some (only is_line n.0) (source_read t.0.0) read n.2 in
    let lo = only_some is_line n.0 l.0 l.1 in
    let lt : Takes t.0.1 (big_bytes 4 l.0.0) l.0.1 × (l.0.0 < 2 ^ 32) = subst (λ (p : ℕ × List ℕ). Takes t.0.1 (big_bytes 4 p.0) p.1 × (p.0 < 2 ^ 32)) lo.1 nt in
    let positive : is_line l.0.0 ≡ true = subst (λ (p : ℕ × List ℕ). is_line p.0 ≡ true) lo.1 lo.0 in
    let whole = Takes-then bytes (t.0.0 ∷ []) t.0.1 (big_bytes 4 l.0.0) l.0.1 tt' lt.0 in
    let fit : is_source (t.0.0, l.0.0) ≡ true =
    and_from (is_thread t.0.0 && is_line l.0.0) (nat_lt l.0.0 (2 ^ 32)) (and_from (is_thread t.0.0) (is_line l.0.0) is positive) (lt-ltb l.0.0 (2 ^ 32) lt.1) in
    subst (λ (p : Source × List ℕ). Takes bytes (source_bytes p.0) p.1 × (is_source p.0 ≡ true)) (same_Some ((t.0.0, l.0.0), l.0.1) read l.2) (whole, fit)

pub source_again : (source : Source) (rest : List ℕ) → is_source source ≡ true → source_at (source_bytes source ++ rest) ≡ Some (source, rest)
unfolding source_at
source_again source rest fit =
    let third = and_parts (is_thread source.0 && is_line source.1) (nat_lt source.1 (2 ^ 32)) fit in
    let first = and_parts (is_thread source.0) (is_line source.1) third.0 in
    let below : source.1 < 2 ^ 32 = ltb-true source.1 (2 ^ 32) third.1 in
    let line = big_bytes 4 source.1 ++ rest in
    after (only is_thread (source.0, line)) number_then (source.0, line) _ (only_passes is_thread (source.0, line) first.0)
    (after (number_at 4 line) (line_then source.0) (source.1, rest) _ (number_again 4 source.1 rest below)
    (after (only is_line (source.1, rest)) (source_read source.0) (source.1, rest) _ (only_passes is_line (source.1, rest) first.1) refl))

-- ---- entries

abbrev entry_read : Source → Event × List ℕ → Read Entry
entry_read source event = Some (entry_of source.0 source.1 event.0, event.1)

abbrev event_then : Source × List ℕ → Read Entry
event_then source = event_at source.1 >>= entry_read source.0

entry_takes : (bytes : List ℕ) (read : Entry × List ℕ) → IsBytes bytes → entry_at bytes ≡ Some read → Takes bytes (entry_bytes read.0) read.1 × (is_fit_entry read.0 ≡ true)
unfolding entry_at
entry_takes bytes read fits e =
    let s = bind_some (source_at bytes) event_then read e in
    let st = source_takes bytes s.0 fits s.1 in
    let v = bind_some (event_at s.0.1) (entry_read s.0.0) read s.2 in
    let vt = event_takes s.0.1 v.0 st.0.rest_fits v.1 in
    let whole = Takes-then bytes (source_bytes s.0.0) s.0.1 (event_bytes v.0.0) v.0.1 st.0 vt.0 in
    let fit : is_fit_entry (entry_of s.0.0.0 s.0.0.1 v.0.0) ≡ true = and_from (is_source s.0.0) (is_fit_event v.0.0) st.1 vt.1 in
    subst (λ (p : Entry × List ℕ). Takes bytes (entry_bytes p.0) p.1 × (is_fit_entry p.0 ≡ true)) (same_Some (entry_of s.0.0.0 s.0.0.1 v.0.0, v.0.1) read v.2) (whole, fit)

entry_again : (entry : Entry) (rest : List ℕ) → is_fit_entry entry ≡ true → entry_at (entry_bytes entry ++ rest) ≡ Some (entry, rest)
unfolding entry_at
entry_again entry rest fit =
    let source : Source = (entry.thread, entry.line) in
    let last = and_parts (is_source source) (is_fit_event entry.event) fit in
    let event = event_bytes entry.event ++ rest in
    let parts : entry_bytes entry ++ rest ≡ source_bytes source ++ event = append_assoc (source_bytes source) (event_bytes entry.event) rest in
    ap (λ (l : List ℕ). source_at l >>= event_then) parts
    ∙ after (source_at (source_bytes source ++ event)) event_then (source, event) _ (source_again source event last.0)
    (after (event_at event) (entry_read source) (entry.event, rest) _ (event_again entry.event rest last.1) refl)

-- ---- the whole

pub decoded_takes : (bytes : List ℕ) (entry : Entry) → IsBytes bytes → decoded bytes ≡ Some entry → (is_fit_entry entry ≡ true) × (bytes ≡ entry_bytes entry)
unfolding decoded
decoded_takes = all_takes entry_at entry_bytes is_fit_entry entry_takes

pub decoded_again : (entry : Entry) → is_fit_entry entry ≡ true → decoded (entry_bytes entry) ≡ Some entry
unfolding decoded
decoded_again = all_again entry_at entry_bytes is_fit_entry entry_again

-- what decoding answers, where it goes as reading does
pub decodes : (bytes : List ℕ) (result : Result Entry DecodeFault) → IsBytes bytes → Gives (λ (entry : Entry). entry) (decoded bytes) result
    → IfOk result (λ entry. IsTrue (is_fit_entry entry) × (bytes ≡ entry_bytes entry))
decodes = answers decoded entry_bytes is_fit_entry decoded_takes

pub refuses : (bytes : List ℕ) (result : Result Entry DecodeFault) → Gives (λ (entry : Entry). entry) (decoded bytes) result → IsErrOf result Bad
    → (entry : Entry) → IsTrue (is_fit_entry entry) → bytes ≡ entry_bytes entry → ⊥
refuses = answers_bad decoded entry_bytes is_fit_entry decoded_again

-- no bytes are those of two entries
pub one_entry : (a b : Entry) → is_fit_entry a ≡ true → is_fit_entry b ≡ true → entry_bytes a ≡ entry_bytes b → a ≡ b
one_entry = one_spelled decoded entry_bytes is_fit_entry decoded_again

-- ---- how long they are

pub event_short : (event : Event) → is_fit_event event ≡ true → length (event_bytes event) ≤ 9311
event_short (events.Report name args value) fit =
    let last = and_parts (is_report_name name && is_count (length args) && list_all is_plain args) (is_plain_or_unknown value) fit in
    let third = and_parts (is_report_name name && is_count (length args)) (list_all is_plain args) last.0 in
    let first = and_parts (is_report_name name) (is_count (length args)) third.0 in
    let short = name_below name first.0 in
    let few : length args ≤ 8 = leb-true (length args) 8 first.1 in
    let told = value_short value last.1 in
    let each = arguments_short args third.1 in
    omega (arith, length-append (text_bytes name) (length args ∷ (flat_map value_bytes args ++ value_bytes value)), length-append (flat_map value_bytes args) (value_bytes value), length-append (big_bytes 2 (length name)) name)
event_short (events.Handle node handle) fit =
    let short = path_below node fit in
    omega (arith, length-append (text_bytes node) (handle_code handle ∷ []))
event_short (events.Return node value) fit =
    let both = and_parts (is_path node) (is_plain_or_unknown value) fit in
    let short = path_below node both.0 in
    let told = value_short value both.1 in
    omega (arith, length-append (text_bytes node) (value_bytes value))
event_short (events.AbortDone node) fit = let short = path_below node fit in omega arith
event_short (events.Acknowledged node) fit = let short = path_below node fit in omega arith

pub entry_short : (entry : Entry) → is_fit_entry entry ≡ true → length (entry_bytes entry) ≤ 9316
entry_short entry fit =
    let last = and_parts (is_thread entry.thread && is_line entry.line && nat_lt entry.line (2 ^ 32)) (is_fit_event entry.event) fit in
    let short = event_short entry.event last.1 in
    omega arith
