use Rattle.std.proofs.Common.{◌≡◌, sym, None, ◌++◌, rules}
use Rattle.std.specs.String.{string_bytes}
use lib.Utf8.{encode}
use Rattle.px_value.specs.Text.{unescaped}
use Rattle.px_lex.proofs.Strings.{no_such_escape, an_escape, the_quote, a_line_end, another, the_end}
use Rattle.px_lex.proofs.string.string_from.Goals as goal

pub returns-in_default-unescaped : goal.returns-in_default-unescaped
returns-in_default-unescaped c =
    let none : unescaped c.in-Some.c ≡ None = search rules in
    sym (no_such_escape _ (string_bytes c.loop-c.content) _ _ c.in-Some.c (rw c.if-escape.true at c.loop-c.invariant.read) c.in-Some.ensures.steps.0 none)

pub loop-c-preserved-then-escape : goal.loop-c-preserved-then-escape
loop-c-preserved-then-escape c =
    let more : string_bytes c.push.new.self ≡ string_bytes c.loop-c.content ++ encode c.in-Some-unescaped.c = search rules in
    record { can = tt; finite = tt; read = an_escape _ (string_bytes c.loop-c.content) _ _ _ c.in-Some.c c.in-Some-unescaped.c (rw c.if-escape.true at c.loop-c.invariant.read) c.in-Some.ensures.steps.0 (sym c.in-Some-unescaped.ensures) more }

pub returns-in-34 : goal.returns-in-34
returns-in-34 c = rw c.as_str.ensures (sym (the_quote _ (string_bytes c.loop-c.content) _ _ c.in-Some.c (rw c.if-escape.false at c.loop-c.invariant.read) c.in-Some.ensures.steps.0 c.in-34.is))

pub returns-in-10 : goal.returns-in-10
returns-in-10 c = sym (a_line_end _ (string_bytes c.loop-c.content) _ _ c.in-Some.c (rw c.if-escape.false at c.loop-c.invariant.read) c.in-Some.ensures.steps.0 c.in-10.is)

pub loop-c-preserved : goal.loop-c-preserved
loop-c-preserved c =
    let more : string_bytes c.push-in_default-c.new.self ≡ string_bytes c.loop-c.content ++ encode c.in-Some.c = search rules in
    record { can = tt; finite = tt; read = rw c.if-escape.false (another _ (string_bytes c.loop-c.content) _ _ _ c.in-Some.c (rw c.if-escape.false at c.loop-c.invariant.read) c.in-Some.ensures.steps.0 (λ e. search rules) (λ e. search rules) (λ e. search rules) (λ e. search rules) more) }

pub returns : goal.returns
returns c = sym (the_end _ (string_bytes c.loop-c.content) _ c.loop-c.escape c.loop-c.invariant.read c.in_default.ensures.steps.0.0)
