-- A lawful run is a safe history.
use Rattle.std.proofs.Common.{ℕ, List, sym, subst}
use Rattle.std.specs.Prelude.{Contains, Ok, Err}
use Rattle.std.proofs.lemmas.List.Elements.{All-contains, All-weaker, All-contains_itself}
use Rattle.pd_types.specs.declared.oracle.Batch.{Batch}
use Rattle.tso_model.specs.declared.entries.Claim.{Claim}
use Rattle.tso_model.specs.Words.{Inside}
use Rattle.tso_outcome.specs.declared.said.ClientSaid.{ClientSaid}
use Rattle.tso_outcome.specs.declared.said.ClientAnswer.{ClientAnswer}
use Rattle.tso_outcome.specs.declared.said.ClientSaid.TheVariants.{Took, Told, Heard}
use Rattle.tso_client.specs.declared.draw.DrawFault.TheVariants.{NotLeader, Stale, Again}
use Rattle.tso_outcome.specs.Runs.{Run, all_got}
use Rattle.tso_outcome.specs.Lawful.{IsLawful}
use Rattle.tso_outcome.specs.Safe.{IsSafeRun, IsFairAnswer}
use Rattle.tso_model.specs.OneHistory.{LiesInOne}
use Rattle.tso_outcome.specs.Batches.{KeepsAbove}
use Rattle.tso_outcome.specs.Refusals.{KeepsAgain}
use Rattle.tso_model.proofs.Codes.{batch_code, batch_one}
use Rattle.tso_outcome.proofs.Codes.{moved}
use Rattle.tso_outcome.proofs.Above.{to_map}

fair : (run : Run) (c : ℕ) (before : List ClientAnswer) (said : ClientSaid) → KeepsAbove before said → KeepsAgain run c before said → IsFairAnswer before said
fair run c before (Took d n (Ok b)) above again = above.2
fair run c before (Took d n (Err (Again at hi m))) above again = again.passed
fair run c before (Took d n (Err NotLeader)) above again = tt
fair run c before (Took d n (Err (Stale term))) above again = tt
fair run c before (Told to) above again = tt
fair run c before (Heard heard) above again = tt

pub is_safe : (run : Run) → IsLawful run → IsSafeRun run
is_safe run l = record {
  history = record {
    rises = l.batches.apart;
    follow = record { opening = run.setup.cell; claims = l.windows.windows.claims; are = l.windows.windows.are; rise = l.windows.windows.rise };
    inside = All-weaker (Contains (all_got run.clients)) (LiesInOne run.windows) (λ b h.
        let d = l.batches.draws in
        let r = All-contains (λ (x : Batch). (c : Claim) × Contains d.claims c × Inside c.window x) run.batches b d.draws.inside (moved batch_code batch_one (all_got run.clients) run.batches l.batches.got b h) in
        record { window = r.0.window; one = subst (λ ws. Contains ws r.0.window) (sym d.are) (to_map (λ (c : Claim). c.window) d.claims r.0 r.1); inside = r.2 })
        (all_got run.clients) (All-contains_itself (all_got run.clients));
  };
  fair = λ part h before a after is. fair run part.number before a.said (l.batches.above part h before a after is) (l.refusals.again part h before a after is);
}
