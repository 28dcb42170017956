-- How what was printed adds up.
use Rattle.std.proofs.Common.{◌≡◌, ℕ, ◌-◌, ◌≤◌, inl, inr, List, [], ◌++◌, Option, Some, None, Result, Ok, Err, IsErrAnd, take, drop, length, refl, ap, ◌∙◌, sym, arith, append_assoc, append-nil, subst}
use Rattle.std.proofs.lemmas.List.{take-append-drop, take_all, length-drop}
use Rattle.px_ports.specs.declared.host.HostFault.{HostFault}
use Rattle.px_ports.specs.Host.{Emits, EmitsFront, CountsWrites, CountsIdle}
use Rattle.px_output.specs.declared.printer.PrintFault.{PrintFault}
use Rattle.px_output.specs.declared.printer.PrintFault.TheVariants.{SinkFailed, NoMemory}
use Rattle.px_output.specs.Printing.{Buffers, Prints}
use Rattle.px_output.specs.View.{View, Faulted, EmitsPart, OnlyPrints}

-- ---- what is emitted, one piece after another

pub emits_nothing : (emitted : Option (List ℕ)) → Emits emitted emitted []
emits_nothing None = refl
emits_nothing (Some bytes) = ap Some (sym (append-nil bytes))

emits_more : (a b c : Option (List ℕ)) (x y : List ℕ) → Emits a b x → Emits b c y → Emits a c (x ++ y)
emits_more None b c x y one two = rw (two, one) refl
emits_more (Some bytes) b c x y one two = rw (two, one) (ap Some (append_assoc bytes x y))

pub only_same : (v : View) → OnlyPrints v v
only_same v = record { files = refl; read_faults = refl; write_faults = omega arith; idle = omega arith }

pub only_more : (a b c : View) → OnlyPrints a b → OnlyPrints b c → OnlyPrints a c
only_more a b c one two = record {
  files = two.files ∙ one.files;
  read_faults = two.read_faults ∙ one.read_faults;
  write_faults = omega arith;
  idle = omega arith;
}

-- faults since a moment are faults since one before it
pub faulted_later : (a b c : View) → a.write_faults ≤ b.write_faults → a.idle ≤ b.idle → Faulted b c → Faulted a c
faulted_later a b c faults idle (inl h) = inl (omega (arith, faults))
faulted_later a b c faults idle (inr h) = inr (omega (arith, idle))

-- ---- what is printed, one text behind another

pub buffers_none : (v : View) (buffer : List ℕ) → Buffers v buffer v buffer []
buffers_none v buffer = ([], append-nil buffer, emits_nothing v.emitted)

pub goes_on : (a b c : View) (p q r told piece : List ℕ) → Buffers a p b q told → Buffers b q c r piece → Buffers a p c r (told ++ piece)
goes_on a b c p q r told piece (x, is, one) (y, is', two) = (
  x ++ y,
  sym (append_assoc p told piece) ∙ ap (λ left. left ++ piece) is ∙ append_assoc x q piece ∙ ap (λ right. x ++ right) is'
      ∙ sym (append_assoc x y r),
  emits_more a.emitted b.emitted c.emitted x y one two,
)

buffers_more : (a b : View) (p q told more : List ℕ) → Buffers a p b q told → Buffers a p b (q ++ more) (told ++ more)
buffers_more a b p q told more (x, is, one) =
    (x, sym (append_assoc p told more) ∙ ap (λ left. left ++ more) is ∙ append_assoc x q more, one)

-- memory is wanting behind what was told of the whole
pub wants_memory : {T : Type 0} (a b : View) (p q rest told more whole : List ℕ) (r : Result T PrintFault)
    → IsErrAnd r (λ fault. fault ≡ NoMemory) → Buffers a p b q told → whole ≡ told ++ more → Prints a p b rest whole r
wants_memory a b p q rest told more whole (Ok answer) is buffers w = absurd is
wants_memory a b p q rest told more whole (Err SinkFailed) is buffers w = cc
wants_memory a b p q rest told more whole (Err NoMemory) is buffers w = (q ++ more, rw w (buffers_more a b p q told more buffers))

-- a piece behind what was told of the whole breaks off
pub fails : (U : Type 0) {T : Type 0} (a b c : View) (p q q' rest told piece later whole : List ℕ) (fault : PrintFault) (r : Result T PrintFault)
    → IsErrAnd r (λ e. e ≡ fault) → Buffers a p b q told → OnlyPrints a b → Prints {T = U} b q c q' piece (Err fault)
    → whole ≡ told ++ (piece ++ later) → Prints a p c rest whole r
fails U a b c p q q' rest told piece later whole fault (Ok answer) is buffers only prints w = absurd is
fails U a b c p q q' rest told piece later whole SinkFailed (Err SinkFailed) is buffers only ((left, more), faulted) w =
    ((left ++ later, rw (w, ← append_assoc told piece later) (buffers_more a c p left (told ++ piece) later (goes_on a b c p q left told piece buffers more))), faulted_later a b c only.write_faults only.idle faulted)
fails U a b c p q q' rest told piece later whole NoMemory (Err SinkFailed) is buffers only prints w = cc
fails U a b c p q q' rest told piece later whole SinkFailed (Err NoMemory) is buffers only prints w = cc
fails U a b c p q q' rest told piece later whole NoMemory (Err NoMemory) is buffers only (left, more) w =
    (left ++ later, rw (w, ← append_assoc told piece later) (buffers_more a c p left (told ++ piece) later (goes_on a b c p q left told piece buffers more)))

-- the first piece of a text breaks off
pub fails_first : (U : Type 0) {T : Type 0} (a c : View) (p q' rest piece later whole : List ℕ) (fault : PrintFault) (r : Result T PrintFault)
    → IsErrAnd r (λ e. e ≡ fault) → Prints {T = U} a p c q' piece (Err fault) → whole ≡ piece ++ later → Prints a p c rest whole r
fails_first U a c p q' rest piece later whole fault r is prints w =
    fails U a a c p p q' rest [] piece later whole fault r is (buffers_none a p) (only_same a) prints w

-- the last piece of a text is printed, or breaks off
pub ends : (a b c : View) (p q rest told piece whole : List ℕ) (r : Result Unit PrintFault) → whole ≡ told ++ piece → Buffers a p b q told
    → OnlyPrints a b → Prints b q c rest piece r → Prints a p c rest whole r
ends a b c p q rest told piece whole (Ok done) w buffers only more = rw w (goes_on a b c p q rest told piece buffers more)
ends a b c p q rest told piece whole (Err fault) w buffers only more =
    fails Unit {T = Unit} a b c p q rest rest told piece [] whole fault (Err fault) refl buffers only more
    (w ∙ ap (λ text. told ++ text) (sym (append-nil piece)))

-- ---- a piece by way of the buffer

pub piece_printed : {T : Type 0} (a b : View) (p q rest piece : List ℕ) (r : Result T PrintFault) → q ≡ p ++ piece → Prints a q b rest [] r
    → Prints a p b rest piece r
piece_printed a b p q rest piece (Ok answer) is (front, whole, emits) = (front, rw (is, append-nil) at whole, emits)
piece_printed a b p q rest piece (Err SinkFailed) is ((left, (front, whole, emits)), faulted) = ((left, (front, rw (is, append-nil) at whole, emits)), faulted)
piece_printed a b p q rest piece (Err NoMemory) is (left, (front, whole, emits)) = (left, (front, rw (is, append-nil) at whole, emits))

pub nothing_printed : {T : Type 0} (a : View) (p q piece : List ℕ) (r : Result T PrintFault) → IsErrAnd r (λ fault. fault ≡ NoMemory)
    → Prints a p a q piece r
nothing_printed a p q piece r is = wants_memory a a p p q [] piece piece r is (buffers_none a p) refl

-- ---- a whole text

-- that is emitted without the buffer
pub text_printed : {T : Type 0} (a b : View) (bytes text : List ℕ) (r : Result T PrintFault) → bytes ≡ text → Prints a bytes b [] [] r
    → Prints a [] b [] text r
text_printed a b bytes text r is prints = subst (λ t. Prints a [] b [] t r) is (piece_printed a b [] bytes [] bytes r refl prints)

pub emitted_whole : (a b : View) (text : List ℕ) → Buffers a [] b [] text → Emits a.emitted b.emitted text
emitted_whole a b text (front, is, emits) = rw (is, append-nil) emits

pub emitted_part : (a b : View) (left text : List ℕ) → Buffers a [] b left text → EmitsPart a b text
emitted_part a b left text (front, is, emits) = (front, left, is, emits)

-- by a printer that holds nothing
pub from_nothing : (a b : View) (p q text : List ℕ) (r : Result Unit PrintFault) → p ≡ [] → Prints a p b q text r → Prints a [] b q text r
from_nothing a b p q text r is prints = subst (λ p. Prints a p b q text r) is prints

-- what is left of a text is emitted at its end
pub finished : (a b c : View) (q text whole : List ℕ) (r : Result Unit PrintFault) → whole ≡ text → Buffers a [] b q text → OnlyPrints a b
    → Prints b q c [] [] r → Prints a [] c [] whole r
finished a b c q text whole r w buffers only more = ends a b c [] q [] text [] whole r (w ∙ sym (append-nil text)) buffers only more

-- ---- what one emit does

pub record Emitted (old new : View) (bytes : List ℕ) (result : Result ℕ HostFault) : Type 0 where
  pub emitted : EmitsFront bytes old.emitted new.emitted result
  pub writes : CountsWrites old.write_faults new.write_faults result
  pub idles : CountsIdle old.idle new.idle result
  pub files : new.files ≡ old.files
  pub read_faults : new.read_faults ≡ old.read_faults

pub only_emitted : (old new : View) (bytes : List ℕ) (result : Result ℕ HostFault) → Emitted old new bytes result → OnlyPrints old new
only_emitted old new bytes result e =
    record { files = e.files; read_faults = e.read_faults; write_faults = e.writes.later; idle = e.idles.later }

-- this rest of a text is still to be emitted
pub record IsEmitting (old : View) (text : List ℕ) (new : View) (rest : List ℕ) : Type 0 where
  pub buffers : Buffers old text new rest []
  pub only : OnlyPrints old new

pub emitting_at_once : (v : View) (text : List ℕ) → IsEmitting v text v text
emitting_at_once v text = record { buffers = buffers_none v text; only = only_same v }

front_emitted : (old new : View) (rest : List ℕ) (count : ℕ) → Emits old.emitted new.emitted (take count rest) → Buffers old rest new (drop count rest) []
front_emitted old new rest count emits = (take count rest, append-nil rest ∙ sym (take-append-drop count rest), emits)

pub emitting_more : (old mid new : View) (text rest : List ℕ) (count end : ℕ) → IsEmitting old text mid rest → Emitted mid new rest (Ok count)
    → end ≡ length rest → IsEmitting old text new (take (end - count) (drop count rest))
emitting_more old mid new text rest count end e one is =
    rw (take_all (end - count) (drop count rest) (rw is (simp length-drop (omega arith)))) (record {
      buffers = goes_on old mid new text rest (drop count rest) [] [] e.buffers (front_emitted mid new rest count one.emitted.front);
      only = only_more old mid new e.only (only_emitted mid new rest (Ok count) one);
    })
