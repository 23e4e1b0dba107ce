-- 01, 'When the desk says no': which states a station can be in. The parts are numbered as docs/STORE.md lists them. Assumes nothing.
use Rattle.std.specs.Prelude.{ℕ, zero, suc, ◌^◌, Bool, true, false, not, ◌&&◌, ◌||◌, List, [], ◌∷◌, length, leb, ltb, eqb}
use Rattle.std.proofs.Math.Option.{Option, none, some}
use Rattle.rules.specs.Limits.{last_view, most_statements, most_tallies, most_opened, last_clock}
use Rattle.rules.specs.Lists.{any, all, distinct, within}
use Rattle.rules.specs.Sizes.{Settings, good_settings, holds, quorum}
use Rattle.rules.specs.Messages.{view_allowed, block_allowed, certificate_allowed, allowed}
use Rattle.rules.specs.Words.{Statement, message, same_statement, Opener, Tally, certificate_of, opened_by, own_block, certificate, same_block, in_view, waiting, stopped, State}
use Rattle.rules.specs.Inputs.{is_block}

-- a name is 32 bytes; a mask has no bit at n or above
unfoldable pub is_name : ℕ → Bool
is_name b = ltb b (256 ^ 32)

unfoldable pub is_mask : Settings → ℕ → Bool
is_mask g m = ltb m (2 ^ g.n)

-- (3) entry, then the quit of a waiting station, then the clock, up to its end
unfoldable pub clocks_in_order : State → Bool
unfolding within
clocks_in_order s =
    leb s.entry s.clock && leb s.clock last_clock
    && elim s.phase [ in_view ↦ true | waiting q ↦ within s.entry s.clock q | stopped c ↦ true ]

-- (4) the lock is a certificate of an earlier view
unfoldable pub lock_good : State → Bool
unfolding block_allowed certificate_allowed is_name
lock_good s =
    let t = s.lock in
    ltb t.view s.view && block_allowed t.height t.name && is_name t.name
    && certificate_allowed s.settings t.height t.view t.mask

-- (6) a stored statement is allowed, and was voted for, if ever, not after the clock
unfoldable pub statement_good : State → Statement → Bool
unfolding allowed message is_name
statement_good s x =
    allowed s.settings (message x) && is_name x.name && is_name x.link
    && elim x.voted [ none ↦ true | some c ↦ leb c s.clock ]

-- who opened a tally by a vote is one of these stations, and among its voters
unfoldable pub opener_good : Settings → ℕ → Opener → Bool
unfolding holds
opener_good g m none = true
opener_good g m (some a) = ltb a g.n && holds m a

-- 02: "the clock is there exactly when f+1 bits are, and is never after the present one"
unfoldable pub reached_good : Settings → ℕ → ℕ → Option ℕ → Bool
unfolding quorum
reached_good g now m none = not (quorum g m)
reached_good g now m (some c) = quorum g m && leb c now

-- (8) a tally is of a view and a block that are allowed, with a mask of these stations, opened by nobody or by one of its voters,
-- and keeps a clock as it should
unfoldable pub tally_good : Settings → ℕ → Tally → Bool
unfolding view_allowed block_allowed is_name is_mask opener_good reached_good
tally_good g now t =
    view_allowed g t.view && block_allowed t.height t.name && is_name t.name && is_mask g t.mask && opener_good g t.mask t.opener
    && reached_good g now t.mask t.reached

-- two tallies of one block
unfoldable pub same_tally : Tally → Tally → Bool
unfolding same_block
same_tally t u = same_block (certificate_of t) (certificate_of u)

-- (9) "tallies exist from now on for its certified block and its own block in its view"; genesis "has no tally" in view 0
unfoldable pub tallies_there : List Tally → Statement → Bool
unfolding any same_block own_block certificate
tallies_there ts x =
    any (λ t. same_block (own_block x 0) (certificate_of t)) ts && (eqb (certificate x).view 0 || any (λ t. same_block (certificate x) (certificate_of t)) ts)

-- (10) one blame mask a view, of these stations; nobody blames view 0
unfoldable pub blames_good : Settings → List ℕ → Bool
unfolding all is_mask last_view
blames_good g [] = false
blames_good g (m ∷ ms) = eqb m 0 && eqb (length ms) (last_view g.size) && all (is_mask g) ms

-- (11) "log linked by parent to genesis": each logged name, above the one before, is that of a stored propose
unfoldable pub linked : List Statement → ℕ → ℕ → List ℕ → Bool
unfolding any is_block
linked xs h parent [] = true
linked xs h parent (b ∷ l) = any (λ x. is_block (suc h) b x && eqb parent x.link) xs && linked xs (suc h) b l

-- (12) none of the stations below n opened more tallies than one may
unfoldable pub few_opened : ℕ → List Tally → Bool
unfolding opened_by
few_opened zero ts = true
few_opened (suc a) ts = leb (opened_by a ts) most_opened && few_opened a ts

unfoldable pub well_formed : State → Bool
unfolding good_settings view_allowed clocks_in_order lock_good all statement_good distinct same_statement tally_good same_tally tallies_there blames_good linked few_opened most_statements most_tallies
well_formed s =
    -- (1) settings in range
    good_settings s.settings
    -- (2) the view in range
    && view_allowed s.settings s.view
    && clocks_in_order s
    && lock_good s
    -- (5) counts in range
    && leb (length s.statements) (most_statements s.settings.size)
    && leb (length s.tallies) (most_tallies s.settings.size)
    -- (6), (7) statements allowed and distinct
    && all (statement_good s) s.statements
    && distinct same_statement s.statements
    -- (8) tallies allowed and distinct
    && all (tally_good s.settings s.clock) s.tallies
    && distinct same_tally s.tallies
    && all (tallies_there s.tallies) s.statements
    && blames_good s.settings s.blames
    && linked s.statements 0 0 s.log
    && few_opened s.settings.n s.tallies
