-- `storing::store_new` meets its contract. Assumes nothing.
use Rattle.storing.proofs.Statements.{sendable_certifies, voter_block, certificate_fits, certificate_found, certified_clock, own_fits, own_found, one_more_fits, new_stored}
use Rattle.tallies.specs.Meaning.{with_voters}
use Rattle.rules.specs.Words.{own_block}
use Rattle.store.specs.Decode.{state_of}
use Rattle.wire.specs.Meaning.{statement_of}
use Rattle.words.specs.Meaning.{block_of}
use mathlib.Core.Path.{refl}
use mathlib.Core.Option.{none}
use Rattle.storing.proofs.store_new.Goals as goal

pub certificate_of-certificate-requires : goal.certificate_of-certificate-requires
certificate_of-certificate-requires c =
    sendable_certifies (state_of c.args.store.now).settings c.args.x c.requires.1

pub join_certified-requires : goal.join_certified-requires
unfolding block_of
join_certified-requires c =
    let b = c.args.store.now in
    let x = statement_of c.args.x none in
    let certificate = c.certificate_of-certificate in
    let t = block_of certificate.result in
    (c.requires.0, certificate_fits b x c.requires.1 t (own_block x 0) certificate.ensures refl c.requires.2, certificate_found b x c.requires.1 t (own_block x 0) certificate.ensures refl c.requires.2, tt, c.requires.3)

pub join_found-opened-requires : goal.join_found-opened-requires
unfolding block_of
join_found-opened-requires c =
    let b = c.args.store.now in
    let x = statement_of c.args.x none in
    let certificate = c.certificate_of-certificate in
    let joined = c.join_certified in
    let t = block_of certificate.result in
    let u = block_of c.own_block.result in
    let e = voter_block x 0 c.own_block.ensures in (
      joined.ensures.form,
      own_fits b x c.requires.1 t (with_voters 0 u) certificate.ensures e c.requires.2 joined.ensures,
      own_found b x c.requires.1 t u certificate.ensures c.own_block.ensures c.requires.2 joined.ensures,
      certified_clock b x c.requires.1 t u certificate.ensures c.own_block.ensures c.requires.2 joined.ensures c.requires.3,
      tt,
    )

pub append_statement-requires : goal.append_statement-requires
unfolding block_of
append_statement-requires c =
    let certificate = c.certificate_of-certificate in
    let join-certified = c.join_certified in
    let block = c.own_block in
    let joined = c.join_found-opened in
    let x = statement_of c.args.x none in
    (joined.ensures.left.form, one_more_fits c.args.store.now x c.requires.1 (block_of certificate.result) (with_voters 0 (block_of block.result)) certificate.ensures (voter_block x 0 block.ensures) c.requires.2 join-certified.ensures joined.ensures)

pub returns : goal.returns
unfolding block_of
returns c =
    let certificate = c.certificate_of-certificate in
    let join-certified = c.join_certified in
    let block = c.own_block in
    let join-found = c.join_found-opened in
    let x = statement_of c.args.x none in
    new_stored c.args.store.now x c.requires.1 (block_of certificate.result) (with_voters 0 (block_of block.result)) certificate.ensures (voter_block x 0 block.ensures) c.requires.2 join-certified.ensures join-found.ensures c.append_statement.ensures
