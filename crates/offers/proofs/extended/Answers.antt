-- `offers::extended` meets its contract: by the top of the view. Assumes nothing.
use native.Mathlib.Omega.{arith}
use Rattle.store.proofs.Forms.{form_long, form_statements}
use Rattle.acts.proofs.Votes.{own_small}
use Rattle.offers.proofs.Offers.{top_none, top_within, top_few, top_high, top_extended}
use mathlib.Core.Path.{ap}
use mathlib.Core.Bool.{not}
use Rattle.offers.proofs.extended.Goals as goal

pub load-station-requires : goal.load-station-requires
load-station-requires c = omega (arith, form_long _ c.requires.form)

pub returns-in_default : goal.returns-in_default
returns-in_default c =
    let a = c.args in
    let load = c.load-station in
    top_none load.result a.store.now load.ensures a.name c.top.ensures c.in_default.is

pub statement_at-top-requires : goal.statement_at-top-requires
statement_at-top-requires c =
    let a = c.args in
    let load = c.load-station in
    let f = c.requires.form in
    (form_long _ f, omega (arith, top_within load.result a.store.now load.ensures a.name c.top.ensures c.in-Some.is, form_statements _ f))

pub returns-then-not-quorum : goal.returns-then-not-quorum
returns-then-not-quorum c =
    let a = c.args in
    let load = c.load-station in
    let top = c.top in let statement-at = c.statement_at-top in let own_Block = c.own_block in
    top_few load.result a.store.now load.ensures a.name top.ensures c.in-Some.is statement-at.result statement-at.ensures own_Block.ensures c.voters-mask.ensures c.quorum.ensures (ap not c.if-not-quorum.true)

pub returns-then-top-ge-LAST_HEIGHT : goal.returns-then-top-ge-LAST_HEIGHT
returns-then-top-ge-LAST_HEIGHT c =
    let a = c.args in
    let load = c.load-station in
    let top = c.top in
    let statement-at = c.statement_at-top in
    let own_Block = c.own_block in let voters = c.voters-mask in
    top_high load.result a.store.now load.ensures a.name top.ensures c.in-Some.is statement-at.result statement-at.ensures own_Block.ensures voters.ensures c.if-top-ge-LAST_HEIGHT.true

pub overflow_cast-result : goal.overflow_cast-result
overflow_cast-result c =
    let pre = c.requires in
    let load = c.load-station in
    record { fits = omega (arith, own_small pre load.result load.ensures) }

pub returns : goal.returns
returns c =
    let a = c.args in
    let load = c.load-station in
    let top = c.top in
    let statement-at = c.statement_at-top in
    let own_Block = c.own_block in
    let voters = c.voters-mask in let quorum = c.quorum in
    let if1 = c.if-not-quorum in let if2 = c.if-top-ge-LAST_HEIGHT in
    top_extended load.result a.store.now load.ensures a.name top.ensures c.in-Some.is statement-at.result statement-at.ensures own_Block.ensures voters.ensures quorum.ensures (ap not if1.false) if2.false
