-- A text in a draft, and the trace of what was posted as it grows there.
use Rattle.std.proofs.Common.{◌≡◌, ℕ, suc, ◌+◌, List, [], ◌∷◌, ◌++◌, length, take, Option, Some, None, refl, ap, sym, subst, ◌∙◌, arith, append_assoc, append-nil, length-append}
use Rattle.std.proofs.Math.Seq.{take-append_seam}
use Rattle.std.proofs.lemmas.List.{length-map}
use Rattle.std.specs.Option.{option_map, ForSome}
use Rattle.px_core.specs.Plan.{Site}
use Rattle.px_event.specs.declared.entry.Entry.{Entry}
use Rattle.px_event.specs.declared.reply.Reply.{Reply}
use Rattle.px_event.specs.declared.reply.Reply.TheVariants as replies
use Rattle.px_sem.specs.Events.{take as taken}
use Rattle.px_sem.specs.Log.{Log, logged_as, events_of, accepted, answer, world_after}
use Rattle.px_sem.specs.Run.{started, posted, settled_world, run_on, run}
use Rattle.px_sem.specs.Stepper.{State, settled_state}
use Rattle.px_sem.specs.Text.{start_text, heading_text, settled_text, events_trace, trace}
use Rattle.px_sem.specs.World.{World, initial_world}
use Rattle.px_sem.proofs.Logs.{IsPosting, posting_more, posting_then, history_after, counted_after}
use Rattle.px_output.specs.Drafts.{Keeps, Holds, post_text}

-- ---- what is kept

pub keeps_more : (a b c : Option (List ℕ)) (text more : List ℕ) → Keeps a b text → Keeps b c more → Keeps a c (text ++ more)
keeps_more a b None text more one two = tt
keeps_more a None (Some z) text more one two = absurd two
keeps_more None (Some y) (Some z) text more one two = absurd one
keeps_more (Some x) (Some y) (Some z) text more one two = two ∙ ap (λ t. t ++ more) one ∙ append_assoc x text more

pub keeps_none : (a : Option (List ℕ)) → Keeps a a []
keeps_none None = tt
keeps_none (Some x) = sym (append-nil x)

-- all behind a length is taken back
pub taken_back : (a b : Option (List ℕ)) (text : List ℕ) (len : ℕ) → ForSome a (λ t. len ≡ length t) → Keeps a b text
    → Keeps a (option_map (take len) b) []
taken_back a None text len is keeps = tt
taken_back None (Some y) text len is keeps = absurd keeps
taken_back (Some x) (Some y) text len is keeps =
    ap (take len) keeps ∙ ap (λ n. take n (x ++ text)) (is x refl) ∙ take-append_seam x text ∙ sym (append-nil x)

-- the text that a draft hands out
pub handed_out : {V : Type 0} (items : V → List ℕ) (out : Option V) (v : V) (draft : Option (List ℕ)) (text : List ℕ)
    → option_map items out ≡ draft → out ≡ Some v → Holds draft text → items v ≡ text
handed_out items out v draft text hands is holds = subst (λ draft. Holds draft text) (sym hands ∙ ap (option_map items) is) holds

-- ---- a trace with one event more

trace_ends : (plan : List Site) (position : ℕ) (now : Option World) → events_trace plan position now [] ≡ []
trace_ends plan position None = refl
trace_ends plan position (Some world) = refl

events_more : (plan : List Site) (position at : ℕ) (now : Option World) (history : List Entry) (entry : Entry) (world : World)
    → at ≡ position + length history → run_on plan now (events_of history) ≡ Some world
    → events_trace plan position now (history ++ entry ∷ [])
    ≡ events_trace plan position now history ++ post_text plan world entry (replies.Accepted at)
unfolding run_on
events_more plan position at None [] entry world counted is = absurd (cc)
events_more plan position at None (first ∷ history) entry world counted is = absurd (cc)
events_more plan position at (Some now) [] entry world counted is =
    let here : at ≡ position = omega (arith, counted) in
    let same : now ≡ world = cc in
    ap (λ more. heading_text position entry ++ (settled_text plan (taken plan now entry.event) ++ more))
    (trace_ends plan (suc position) (settled_world (posted plan now entry.event)))
    ∙ ap (λ text. heading_text position entry ++ text) (append-nil (settled_text plan (taken plan now entry.event)))
    ∙ ap (λ w. heading_text position entry ++ settled_text plan (taken plan w entry.event)) same
    ∙ ap (λ n. heading_text n entry ++ settled_text plan (taken plan world entry.event)) (sym here)
events_more plan position at (Some now) (first ∷ history) entry world counted is =
    let heading : List ℕ = heading_text position first in
    let steps : List ℕ = settled_text plan (taken plan now first.event) in
    let next : Option World = settled_world (posted plan now first.event) in
    let others : List ℕ = events_trace plan (suc position) next history in
    let last : List ℕ = post_text plan world entry (replies.Accepted at) in
    ap (λ more. heading ++ (steps ++ more)) (events_more plan (suc position) at next history entry world (omega (arith, counted)) is)
    ∙ ap (λ more. heading ++ more) (sym (append_assoc steps others last))
    ∙ sym (append_assoc heading (steps ++ others) last)

trace_more : (plan : List Site) (at : ℕ) (history : List Entry) (entry : Entry) (world : World)
    → at ≡ 1 + length history → run plan (events_of history) ≡ Some world
    → trace plan (history ++ entry ∷ []) ≡ trace plan history ++ post_text plan world entry (replies.Accepted at)
trace_more plan at history entry world counted is =
    let steps : List ℕ = settled_text plan (initial_world plan) in
    let events : List ℕ = events_trace plan 1 (settled_world (started plan)) history in
    let last : List ℕ = post_text plan world entry (replies.Accepted at) in
    ap (λ more. start_text ++ (steps ++ more)) (events_more plan 1 at (settled_world (started plan)) history entry world counted is)
    ∙ ap (λ more. start_text ++ more) (sym (append_assoc steps events last))
    ∙ sym (append_assoc start_text (steps ++ events) last)

-- the trace of the start alone
pub trace_of_start : (plan : List Site) → trace plan [] ≡ start_text ++ settled_text plan (initial_world plan)
trace_of_start plan =
    ap (λ more. start_text ++ (settled_text plan (initial_world plan) ++ more)) (trace_ends plan 1 (settled_world (started plan)))
    ∙ ap (λ text. start_text ++ text) (append-nil (settled_text plan (initial_world plan)))

-- ---- posts one after another

-- so far, these entries were posted, with this log and this history, whose trace the draft holds
pub record IsDrafting (plan : List Site) (limit : ℕ) (entries : List Entry) (log : Log) (history : List Entry) (now : State)
    (draft : Option (List ℕ)) : Type 0 where
  pub posting : IsPosting plan limit entries log history now (length history)
  pub holds : Holds draft (trace plan history)

-- and so it does behind one post more
holds_more : (plan : List Site) (history : List Entry) (now : State) (log : Log) (count : ℕ) (entry : Entry) (reply : Reply)
    (behind : Option (List ℕ)) → run plan (events_of history) ≡ Some now.world → history_after history entry reply ≡ accepted log
    → counted_after count reply ≡ length (events_of (accepted log)) → Holds behind (trace plan history ++ post_text plan now.world entry reply)
    → Holds behind (trace plan (history_after history entry reply))
holds_more plan history now log count entry (replies.Accepted position) behind runs accepts counted held =
    let all : position ≡ length (events_of (history ++ entry ∷ [])) = counted ∙ ap (λ h. length (events_of h)) (sym accepts) in
    let events : length (events_of (history ++ entry ∷ [])) ≡ length (history ++ entry ∷ []) = length-map (history ++ entry ∷ []) (λ e. e.event) in
    let appended = length-append history (entry ∷ []) in
    let one_more : length (events_of (history ++ entry ∷ [])) ≡ 1 + length history = omega (arith, events, appended) in
    subst (Holds behind) (sym (trace_more plan position history entry now.world (all ∙ one_more) runs)) held
holds_more plan history now log count entry replies.PlanFinished behind runs accepts counted held = subst (Holds behind) (append-nil (trace plan history)) held
holds_more plan history now log count entry replies.Full behind runs accepts counted held = subst (Holds behind) (append-nil (trace plan history)) held
holds_more plan history now log count entry replies.Runaway behind runs accepts counted held = subst (Holds behind) (append-nil (trace plan history)) held

pub drafting_more : (plan : List Site) (limit : ℕ) (entries : List Entry) (log next_log : Log) (history next_history : List Entry)
    (now next : State) (entry : Entry) (reply : Reply) (draft behind : Option (List ℕ)) → IsDrafting plan limit entries log history now draft
    → reply ≡ answer now.nodes limit (length history) now.world entry.event
    → next ≡ settled_state now.nodes (world_after now.nodes now.world entry.event reply)
    → Keeps draft behind (post_text now.nodes now.world entry reply)
    → next_log ≡ log ++ logged_as entry reply ∷ []
    → next_history ≡ history ++ accepted (logged_as entry reply ∷ [])
    → IsDrafting plan limit (entries ++ entry ∷ []) next_log next_history next behind
drafting_more plan limit entries log next_log history next_history now next entry reply draft behind so_far answers moves keeps logs grows =
    let after = posting_more plan limit entries log history now next (length history) entry reply so_far.posting answers moves in
    let posting = posting_then plan limit entries log next_log history next_history now next entry reply so_far.posting answers moves logs grows in
    let shown : history_after history entry reply ≡ next_history = after.accepts ∙ ap accepted (sym logs) ∙ sym posting.accepts in
    let nodes : now.nodes ≡ plan = ap (λ (s : State). s.nodes) so_far.posting.rest in
    let runs : run plan (events_of history) ≡ Some now.world = ap (λ h. run plan (events_of h)) so_far.posting.accepts ∙ so_far.posting.runs in
    record {
      posting = posting;
      holds = subst (λ h. Holds behind (trace plan h)) shown
          (holds_more plan history now (log ++ logged_as entry reply ∷ []) (length history) entry reply behind runs after.accepts after.counted
          (keeps_more (Some []) draft behind (trace plan history) (post_text plan now.world entry reply) so_far.holds
          (subst (λ nodes. Keeps draft behind (post_text nodes now.world entry reply)) nodes keeps)));
    }
