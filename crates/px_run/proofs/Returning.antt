-- How the disk is handed back, by what a command has come to and the status of what was printed.
use Rattle.std.proofs.Common.{◌≡◌, ◌≢◌, ℕ, Ok, Err, refl, sym, ◌∙◌, subst}
use Rattle.px_ports.specs.declared.disk.Disk
use Rattle.px_output.specs.View.{View}
use Rattle.px_ending.specs.declared.status.End.{End}
use Rattle.px_ending.specs.declared.refusal.Refusal.{Refusal}
use Rattle.px_ending.specs.declared.refusal.Refusal.TheVariants as refusals
use Rattle.px_run.specs.declared.stop.Stop.{Stop}
use Rattle.px_run.specs.declared.stop.Stop.TheVariants as stops
use Rattle.px_run.specs.declared.finishing.Carried.{Carried}
use Rattle.px_run.specs.Causes.{IsHandedBack}
use Rattle.px_ending.specs.Ending.{disk_fault}
use Rattle.px_run.specs.Finishing.{ComesBack}
use Rattle.px_run.specs.Headline.{Delivers}
use Rattle.px_ending.specs.Statuses.{ending_of}

module _ {D : Type 0} (members : Disk.Ghosts D) (old : D) (carried : Carried D) (back : ComesBack members old carried) where
  -- a command that is carried out, or stops for another reason than the disk
  pub done_handed_back : (status : ℕ) (end : End) → carried.result ≡ Ok end → IsHandedBack members old carried.disk status
  done_handed_back status end is = record { tells = back.tells; faults = λ sink disk memory. back.kept (λ same. absurd (let both = sym is ∙ same in cc)) }

  pub stop_handed_back : (status : ℕ) (stop given : Stop) → carried.result ≡ Err stop → stop ≡ given → given ≢ stops.Refused refusals.DiskFault
      → IsHandedBack members old carried.disk status
  stop_handed_back status stop given stopped is other = record {
    tells = back.tells;
    faults = λ sink disk memory. back.kept (λ same. other (let both = sym stopped ∙ same in cc));
  }

  -- one that is refused, and the refusal printed
  pub refusal_handed_back : (before now : View) (refusal : Refusal) (status : ℕ) (stop : Stop) → carried.result ≡ Err stop → stop ≡ stops.Refused refusal
      → Delivers before now (ending_of refusal) status → IsHandedBack members old carried.disk status
  refusal_handed_back before now refusal status stop stopped is delivers = record {
    tells = back.tells;
    faults = λ sink disk memory. back.kept (λ same.
        let of_disk : refusal ≡ refusals.DiskFault = (let both = sym stopped ∙ same in cc) in
        one_of_three status (subst (λ (r : Refusal). Delivers before now (ending_of r) status) of_disk delivers) sink disk memory);
  }
    where
      one_of_three : (n : ℕ) → Delivers before now disk_fault n → n ≢ 8 → n ≢ 9 → n ≢ 10 → ⊥
      one_of_three _ (Delivers.whole emits) sink disk memory = disk refl
      one_of_three _ (Delivers.sink_fault part faulted) sink disk memory = sink refl
      one_of_three _ (Delivers.no_memory part) sink disk memory = memory refl
