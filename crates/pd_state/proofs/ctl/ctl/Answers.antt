use Rattle.std.proofs.Common.{◌++◌, ◌∙◌, Option, ap, append-nil, refl, sym}
use Rattle.pd_types.specs.declared.request.Request.TheVariants as ask
use Rattle.pd_state.specs.BenchHeard.{dropped}
use Rattle.pd_state.specs.Heard.{told_all}
use Rattle.pd_state.specs.Legal.{first_reply, sents_by}
use Rattle.pd_state.specs.Steps.{stepped}
use Rattle.pd_state.specs.declared.heard.Heard.{Heard}
use Rattle.pd_state.specs.declared.part.Part.{Part}
use Rattle.pd_state.proofs.Alone.{keeps_so}
use Rattle.pd_state.proofs.Obeyed.{obeyed_after, obeyed_asked, obeyed_reply, obeyed_said, obeyed_sents, obeyed_told}
use Rattle.pd_state.proofs.Removals.{absent_asked, ctl_becomes, ctl_names, no_value}
use Rattle.pd_state.proofs.ctl.ctl.Goals as goal

-- without a term
pub returns-in_default-clause-reply : goal.returns-in_default-clause-reply
returns-in_default-clause-reply g c =
    c.with_names.ensures.reply ∙ ap (λ (p : Option Part). first_reply c.args.driver p (ask.Ctl c.args.moment c.args.words.now) c.with_names.result.heard) (sym (no_value c.args.part.now c.in_default.not-Some))

pub returns-in_default-clause-asked : goal.returns-in_default-clause-asked
returns-in_default-clause-asked g c =
    let words = ask.Ctl c.args.moment c.args.words.now in
    absent_asked c.args.part.now words words c.with_names.result.heard c.in_ok-names.names (no_value c.args.part.now c.in_default.not-Some) refl c.with_names.ensures.heard refl

pub returns-in_default-clause-silent : goal.returns-in_default-clause-silent
returns-in_default-clause-silent g c = ap (λ (h : Heard). h.bench) c.with_names.ensures.heard

pub returns-in_default-clause-names : goal.returns-in_default-clause-names
returns-in_default-clause-names g c =
    ctl_names c.args.words.now c.in_ok-told.told _ c.with_names.result.heard.names c.in_ok-told.ensures.value (ap (λ (h : Heard). h.names) c.with_names.ensures.heard ∙ c.in_ok-names.ensures.value) c.args.moment

pub returns-in_default-clause-becomes : goal.returns-in_default-clause-becomes
returns-in_default-clause-becomes g c =
    keeps_so _ _ (ap (λ (p : Option Part). dropped p (ask.Ctl c.args.moment c.args.words.now) c.with_names.result.heard.names) (no_value c.args.part.now c.in_default.not-Some))

pub returns-in_default-clause-after : goal.returns-in_default-clause-after
returns-in_default-clause-after g c =
    let none = no_value c.args.part.now c.in_default.not-Some in
    none ∙ ap (λ (p : Option Part). stepped p (ask.Ctl c.args.moment c.args.words.now) c.with_names.result.reply c.with_names.result.heard) (sym none)

pub returns-in_default-clause-sents : goal.returns-in_default-clause-sents
returns-in_default-clause-sents g c =
    c.with_names.ensures.sents ∙ ap (λ (p : Option Part). sents_by p (ask.Ctl c.args.moment c.args.words.now) c.with_names.result.reply c.with_names.result.heard) (sym (no_value c.args.part.now c.in_default.not-Some))

pub returns-in_default-clause-said : goal.returns-in_default-clause-said
returns-in_default-clause-said g c =
    sym (append-nil (g.M.Door.said c.args.door.now)) ∙ ap (λ (h : Heard). g.M.Door.said c.args.door.now ++ h.answers) (sym c.with_names.ensures.heard)

pub returns-in_default-clause-told : goal.returns-in_default-clause-told
returns-in_default-clause-told g c = ap (λ (h : Heard). told_all (g.M.Door.told c.args.door.now) c.args.driver h.answers) (sym c.with_names.ensures.heard)

-- in one
pub returns-clause-reply : goal.returns-clause-reply
returns-clause-reply g c =
    obeyed_reply c.args.part.now c.in-Some.held c.advance.new.self c.carry_out.new.part c.args.moment c.args.driver c.args.words.now c.in_ok-told.told c.in_ok-names.names c.in_ok-done.done (g.M.Door.said c.args.door.now) (g.M.Door.said c.carry_out.new.door)
    (g.M.Door.told c.args.door.now) (g.M.Door.told c.carry_out.new.door) c.in-Some.is c.advance.ensures.value c.in_ok-told.ensures.value c.in_ok-done.ensures.heard c.in_ok-done.ensures.does

pub returns-clause-asked : goal.returns-clause-asked
returns-clause-asked g c =
    obeyed_asked c.args.part.now c.in-Some.held c.advance.new.self c.carry_out.new.part c.args.moment c.args.driver c.args.words.now c.in_ok-told.told c.in_ok-names.names c.in_ok-done.done (g.M.Door.said c.args.door.now) (g.M.Door.said c.carry_out.new.door)
    (g.M.Door.told c.args.door.now) (g.M.Door.told c.carry_out.new.door) c.in-Some.is c.advance.ensures.value c.in_ok-told.ensures.value c.in_ok-done.ensures.heard c.in_ok-done.ensures.does

pub returns-clause-names : goal.returns-clause-names
returns-clause-names g c =
    ctl_names c.args.words.now c.in_ok-told.told _ c.in_ok-done.done.heard.names c.in_ok-told.ensures.value (c.in_ok-done.ensures.heard.1 ∙ c.in_ok-names.ensures.value) c.args.moment

pub returns-clause-becomes : goal.returns-clause-becomes
returns-clause-becomes g c =
    ctl_becomes c.args.words.now c.in_ok-told.told _ c.in_ok-done.done.heard.names c.in_ok-told.ensures.value (c.in_ok-done.ensures.heard.1 ∙ c.in_ok-names.ensures.value) c.args.part.now c.in-Some.held c.args.moment _ _ c.in-Some.is refl c.drop_named.ensures.becomes

pub returns-clause-after : goal.returns-clause-after
returns-clause-after g c =
    obeyed_after c.args.part.now c.in-Some.held c.advance.new.self c.carry_out.new.part c.args.moment c.args.driver c.args.words.now c.in_ok-told.told c.in_ok-names.names c.in_ok-done.done (g.M.Door.said c.args.door.now) (g.M.Door.said c.carry_out.new.door)
    (g.M.Door.told c.args.door.now) (g.M.Door.told c.carry_out.new.door) c.in-Some.is c.advance.ensures.value c.in_ok-told.ensures.value c.in_ok-done.ensures.heard c.in_ok-done.ensures.does c.resign.new.part c.in_ok-done.ensures.rest c.resign.ensures.after

pub returns-clause-sents : goal.returns-clause-sents
returns-clause-sents g c =
    obeyed_sents c.args.part.now c.in-Some.held c.advance.new.self c.carry_out.new.part c.args.moment c.args.driver c.args.words.now c.in_ok-told.told c.in_ok-names.names c.in_ok-done.done (g.M.Door.said c.args.door.now) (g.M.Door.said c.carry_out.new.door)
    (g.M.Door.told c.args.door.now) (g.M.Door.told c.carry_out.new.door) c.in-Some.is c.advance.ensures.value c.in_ok-told.ensures.value c.in_ok-done.ensures.heard c.in_ok-done.ensures.does

pub returns-clause-said : goal.returns-clause-said
returns-clause-said g c =
    obeyed_said c.args.part.now c.in-Some.held c.advance.new.self c.carry_out.new.part c.args.moment c.args.driver c.args.words.now c.in_ok-told.told c.in_ok-names.names c.in_ok-done.done (g.M.Door.said c.args.door.now) (g.M.Door.said c.carry_out.new.door)
    (g.M.Door.told c.args.door.now) (g.M.Door.told c.carry_out.new.door) c.in-Some.is c.advance.ensures.value c.in_ok-told.ensures.value c.in_ok-done.ensures.heard c.in_ok-done.ensures.does

pub returns-clause-told : goal.returns-clause-told
returns-clause-told g c =
    obeyed_told c.args.part.now c.in-Some.held c.advance.new.self c.carry_out.new.part c.args.moment c.args.driver c.args.words.now c.in_ok-told.told c.in_ok-names.names c.in_ok-done.done (g.M.Door.said c.args.door.now) (g.M.Door.said c.carry_out.new.door)
    (g.M.Door.told c.args.door.now) (g.M.Door.told c.carry_out.new.door) c.in-Some.is c.advance.ensures.value c.in_ok-told.ensures.value c.in_ok-done.ensures.heard c.in_ok-done.ensures.does
