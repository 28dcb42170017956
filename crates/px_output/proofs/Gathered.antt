-- A piece of a text by way of a printer's buffer.
use Rattle.std.proofs.Common.{◌≡◌, ◌<◌, ℕ, List, [], ◌++◌, length, Result, Ok, Err, IsErrAnd, refl, sym, ◌∙◌, subst, append-nil}
use Rattle.std.specs.Prelude.{OnOk}
use Rattle.px_ports.specs.declared.host.Host
use Rattle.px_output.specs.declared.printer.PrintFault.{PrintFault}
use Rattle.px_output.specs.declared.printer.PrintFault.TheVariants.{NoMemory}
use Rattle.px_output.specs.Printing.{Gathers}
use Rattle.px_output.specs.View.{view}
use Rattle.px_output.proofs.Printed.{piece_printed, nothing_printed, only_same}

module _ {H : Type 0} (members : Host.Ghosts H) where
  -- the text was put into the buffer, and then as much emitted as was due
  pub piece_gathered : (old new : H) (held filled holds piece : List ℕ) (r : Result Unit PrintFault) → filled ≡ held ++ piece
      → Gathers members old filled new holds [] r → Gathers members old held new holds piece r
  piece_gathered old new held filled holds piece r is gathers = record {
    prints = piece_printed (view members old) (view members new) held filled holds piece r is gathers.prints;
    short = gathers.short;
    only = gathers.only;
    waits = λ few.
        let all : filled ++ [] ≡ held ++ piece = append-nil filled ∙ is in
        let waits = gathers.waits (subst (λ (l : List ℕ). length l < 65536) (sym all) few) in
        (waits.0, subst (λ (l : List ℕ). OnOk r (holds ≡ l)) all (waits.1));
  }

  -- memory was wanting for the buffer
  pub nothing_gathered : (host : H) (held holds piece : List ℕ) (r : Result Unit PrintFault) → IsErrAnd r (λ fault. fault ≡ NoMemory)
      → Gathers members host held host holds piece r
  nothing_gathered host held holds piece (Ok done) is = absurd is
  nothing_gathered host held holds piece (Err fault) is = record {
    prints = nothing_printed {T = Unit} (view members host) held holds piece (Err fault) is;
    short = tt;
    only = only_same (view members host);
    waits = λ few. (refl, tt);
  }
