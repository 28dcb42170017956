use Rattle.std.proofs.Common.{◌≡◌, inl, inr, length, sym, ◌∙◌, ap, subst, arith}
use Rattle.std.proofs.lemmas.List.{length-take}
use Rattle.px_journal.specs.Damage.{Damaged}
use Rattle.px_journal.proofs.Reading.{part_is, front_open, damaged_at, heading_number, heading_version, magic_damaged, text_damaged, version_damaged}
use Rattle.px_journal.proofs.heading.read_heading.Goals as goal
use Rattle.px_journal.proofs.heading.read_heading.Goals.{then-length-gt-TEXT_LIMIT-via-then-length-gt-TEXT_LIMIT, then-length-gt-TEXT_LIMIT-via-else-length-gt-TEXT_LIMIT+then-size-from}

pub returns-in-Some-clause-damaged : goal.returns-in-Some-clause-damaged
returns-in-Some-clause-damaged g c = λ at refused told is.
    let heading_is = c.in_ok-read_at.ensures.read told is ∙ part_is told 0 13 in
    let long : length c.read_at.new.into ≡ 13 = omega (arith, ap length heading_is, length-take 13 told, c.requires.size told is, c.requires.least) in
    let differs = c.in-Some.ensures in (
      front_open told _ 13 heading_is (omega (arith, long)) c.if-heading-eq-CLOSED.false,
      subst (Damaged told) (sym (damaged_at _ at refused)) (magic_damaged told _ heading_is long c.in-Some.place (differs.0) (differs.1) (differs.2)),
    )

pub returns-in_default-version_of-clause-damaged : goal.returns-in_default-version_of-clause-damaged
returns-in_default-version_of-clause-damaged g c = λ at refused told is.
    let heading_is = c.in_ok-read_at.ensures.read told is ∙ part_is told 0 13 in
    let long : length c.read_at.new.into ≡ 13 = omega (arith, ap length heading_is, length-take 13 told, c.requires.size told is, c.requires.least) in (
      front_open told _ 13 heading_is (omega (arith, long)) c.if-heading-eq-CLOSED.false,
      subst (Damaged told) (sym (damaged_at 8 at refused)) (version_damaged told _ heading_is long c.in_default.ensures c.in_default-version_of.ensures),
    )

pub returns-then-length-gt-TEXT_LIMIT-clause-damaged : goal.returns-then-length-gt-TEXT_LIMIT-clause-damaged
returns-then-length-gt-TEXT_LIMIT-clause-damaged g c = λ at refused told is.
    let heading_is = c.in_ok-read_at.ensures.read told is ∙ part_is told 0 13 in
    let long : length c.read_at.new.into ≡ 13 = omega (arith, ap length heading_is, length-take 13 told, c.requires.size told is, c.requires.least) in
    let version = c.in-Some-version_of.version in
    let has = heading_version told _ heading_is long version c.in_default.ensures c.in-Some-version_of.ensures in
    let damaged = text_damaged told _ heading_is long version c.told_length-length.result has c.told_length-length.ensures.number (elim c.then-length-gt-TEXT_LIMIT.branch [
      | then-length-gt-TEXT_LIMIT-via-then-length-gt-TEXT_LIMIT w ↦ inl (omega (arith, w.if-length-gt-TEXT_LIMIT.true))
      | then-length-gt-TEXT_LIMIT-via-else-length-gt-TEXT_LIMIT+then-size-from w ↦ inr (omega (arith, w.if-size-from.true, w.from.ensures, c.requires.size told is))
    ]) in (
      front_open told _ 13 heading_is (omega (arith, long)) c.if-heading-eq-CLOSED.false,
      subst (Damaged told) (sym (damaged_at 9 at refused)) damaged,
    )

pub returns-clause-opens : goal.returns-clause-opens
returns-clause-opens g c = λ told is.
    let heading_is = c.in_ok-read_at.ensures.read told is ∙ part_is told 0 13 in
    let long : length c.read_at.new.into ≡ 13 = omega (arith, ap length heading_is, length-take 13 told, c.requires.size told is, c.requires.least) in (
      front_open told _ 13 heading_is (omega (arith, long)) c.if-heading-eq-CLOSED.false,
      heading_version told _ heading_is long c.in-Some-version_of.version c.in_default.ensures c.in-Some-version_of.ensures,
      sym (heading_number told _ heading_is long) ∙ c.told_length-length.ensures.bytes,
    )
