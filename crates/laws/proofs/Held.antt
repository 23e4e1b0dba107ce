-- What a station is handed it holds from then on, in every view and phase, and what it says to all it holds. Assumes nothing.
use mathlib.Core.Path.{◌≡◌, subst, refl, sym, ap, ◌∙◌}
use Prim.Native.Nat.{ℕ, suc, ◌+◌, ◌≤◌, ◌<◌}
use native.Mathlib.Omega.{arith}
use mathlib.Core.Bool.{Bool, true, false}
use mathlib.Core.List.{List, [], ◌∷◌, Memᴰ}
use mathlib.Core.Option.{none, some}
use lib.Dec.{eqb}
use lib.ListN.{length}
use borrow.Author.Tests.{eqb-true}
use Rattle.rules.specs.Limits.{first_view, last_view}
use Rattle.rules.specs.Lists.{first, any, keep}
use Rattle.rules.specs.Sizes.{Settings, leader, only, bit, quorum}
use Rattle.rules.specs.Messages.{Message, new_view, propose, vote, blame, blame_set, status, read, allowed, Effect, to_all, to_one, committed}
use Rattle.rules.specs.Words.{Statement, message, same_statement, conflict, Certificate, own_block, join_certificate, voters, State, moment}
use Rattle.rules.specs.Inputs.{saying, ◌▸◌, with_phase, with_tables, with_blames, with_log, entering, is_in, quit, below_lock, voted_for, ballot, voting, certificate_joined, stored, statement, tallied, blames_of, blamed, blame_full, blaming, handled, reports, report, current, in_order, voting_all}
use Rattle.rules.specs.Refusals.{done, refused, stopping, has_room, if_room, running, ahead, used_up, heard, step}
use Rattle.laws.proofs.Tests.{by_bool, by_option, no_bool}
use Rattle.laws.proofs.Truths.{and_2}
use Rattle.laws.proofs.Searches.{All, all_append, all_map, to_all_lem, mem_keep, first_mem}
use Rattle.laws.proofs.Statements.{like, same_refl, In, mem_in, in_cong, in_append, in_last, in_noted, pair_some, mem_order}
use Rattle.laws.proofs.Tallies.{only_bit, same_block_lem, voters_joined}
use Rattle.laws.proofs.Allowed.{view_within, mask_parts, allowed_rights}
use Rattle.laws.proofs.Moves.{Outside, arrived, fills_now, Move, joins, stores, passes, casts, clashes, accuses, fills, complains, enters_full, enters_pair, enters, Moves, here, more, voting_low, voting_high}
use Rattle.laws.proofs.Kept.{blamed_here, quorum_right, moves_fixed, Kept, move_kept, moves_kept, voted_kept, voting_all_kept}

-- a block in a view
abbrev pub block : ℕ → ℕ → ℕ → Certificate
block v h b = record { view = v; height = h; name = b; mask = 0 }

-- a statement as it is read, with its kind
abbrev read_as : Bool → (v h b l m a : ℕ) → Statement
read_as k v h b l m a = record { is_new_view = k; view = v; height = h; name = b; link = l; mask = m; author = a; voted = none }

-- the station has what the message says: the statement is stored, the vote counted, the view's blames are a quorum
abbrev pub Held : Settings → State → Message → Type 0
Held g s (new_view v h b c m a) = In s.statements (read_as true v h b c m a)
Held g s (propose v h b p m a) = In s.statements (read_as false v h b p m a)
Held g s (vote v h b a) = bit (voters (block v h b) s.tallies) a ≡ 1
Held g s (blame v a) = Unit {0}
Held g s (blame_set v m) = quorum g (blames_of v s) ≡ true
Held g s (status h b c m) = Unit {0}

pub held_kept : (g : Settings) {s t : State} → Kept s t → (m : Message) → Held g s m → Held g t m
held_kept g k (new_view v h b c m a) e = k.has _ e
held_kept g k (propose v h b p m a) e = k.has _ e
held_kept g k (vote v h b a) e = k.bits (block v h b) a e
held_kept g k (blame v a) e = tt
held_kept g k (blame_set v m) e = k.full g v e
held_kept g k (status h b c m) e = tt

-- a statement's message is held exactly when the statement is stored
bare : (x : Statement) (xs : List Statement) → any (same_statement x) xs ≡ any (same_statement (like x x.mask none)) xs
bare x xs = in_cong x (like x x.mask none) (same_refl x x.mask none) xs

abbrev kinded : Bool → Statement → Statement
kinded k x = read_as k x.view x.height x.name x.link x.mask x.author

pub stored_held : (g : Settings) (s : State) (x : Statement) → In s.statements x → Held g s (message x)
unfolding message
stored_held g s x h = go x.is_new_view refl
  where
    go : (k : Bool) → x.is_new_view ≡ k → Held g s (message x)
    go true e = rw (e, message) (subst (λ (b : Bool). In s.statements (kinded b x)) e (sym (bare x s.statements) ∙ h))
    go false e = rw (e, message) (subst (λ (b : Bool). In s.statements (kinded b x)) e (sym (bare x s.statements) ∙ h))

pub held_stored : (g : Settings) (s : State) (x : Statement) → Held g s (message x) → In s.statements x
unfolding message
held_stored g s x h = go x.is_new_view refl
  where
    go : (k : Bool) → x.is_new_view ≡ k → In s.statements x
    go true e = bare x s.statements ∙ subst (λ (b : Bool). In s.statements (kinded b x)) (sym e) (rw (e, message) at h)
    go false e = bare x s.statements ∙ subst (λ (b : Bool). In s.statements (kinded b x)) (sym e) (rw (e, message) at h)

-- ---- what is handed over is held

pub statement_held : (x : Statement) (s : State) → In (statement x s).now.statements x
unfolding statement voting saying quit with_phase stored with_tables certificate_joined voted_for
statement_held x s =
    let a = in_last s.statements x in
    by_bool (any (same_statement x) s.statements) (λ q. rw (q, statement) q) λ q.
    by_bool (is_in x.view s)
    (λ i.
    by_option (first (conflict x) s.statements)
    (λ o.
    by_bool (below_lock x (stored x s)) (λ l. rw (q, i, o, statement, voting_low x (stored x s) l) a)
    (λ l. rw (q, i, o, statement, voting_high x (stored x s) l, in_noted) a))
    (λ y o. rw (q, i, o, statement) a))
    (λ i. rw (q, i, statement) a)

blaming_masks : (v m : ℕ) (s : State) → blames_of v (blaming v m s).now ≡ blames_of v (blamed v m s)
unfolding blaming saying quit with_phase blames_of
blaming_masks v m s = by_bool (fills_now v m s) (λ q. rw (q, blaming)) (λ q. rw (q, blaming))

blaming_held : (g : Settings) (v m : ℕ) (s : State) → v < length s.blames → quorum g m ≡ true → quorum g (blames_of v (blaming v m s).now) ≡ true
blaming_held g v m s l c = rw (blaming_masks v m s, blamed_here v m s l) (quorum_right g (blames_of v s) m c)

tallied_held : (v h b a : ℕ) (s : State) → first_view ≤ v
    → bit (voters (block v h b) (tallied (some a) (record { view = v; height = h; name = b; mask = only a }) s).now.tallies) a ≡ 1
unfolding tallied saying with_tables join_certificate
tallied_held v h b a s l =
    let t : Certificate = record { view = v; height = h; name = b; mask = only a } in
    by_bool (eqb v 0) (λ e. let z = eqb-true v 0 e in absurd (omega arith))
    (λ e. rw (e, join_certificate) (voters_joined (moment (some a) s) (block v h b) t s.tallies a (same_block_lem (block v h b) t refl refl refl) (only_bit a)))

handled_held : (m : Message) (s : State) → allowed s.settings m ≡ true → length s.blames ≡ suc (last_view s.settings.size) → Held s.settings (handled m s).now m
unfolding handled
handled_held (new_view v h b c m a) s w l = statement_held (read_as true v h b c m a) s
handled_held (propose v h b p m a) s w l = statement_held (read_as false v h b p m a) s
handled_held (vote v h b a) s w l = tallied_held v h b a s (view_within s.settings v (allowed_rights s.settings (vote v h b a) w).0).0
handled_held (blame v a) s w l = tt
handled_held (blame_set v m) s w l =
    let r = allowed_rights s.settings (blame_set v m) w in
    let k = (view_within s.settings v r.0).1 in
    blaming_held s.settings v m s (omega arith) (mask_parts s.settings m r.1).1
handled_held (status h b c m) s w l = tt

-- who is left running by a message that can be read, is allowed, not too far ahead and no vote of one who opened all he may took it:
-- the answer is 0
pub step_taken : (bs : List ℕ) (m : Message) (s : State) → running s ≡ true → read bs ≡ some m → allowed s.settings m ≡ true → ahead m s ≡ false → used_up m s ≡ false
    → running (step bs s).next ≡ true → (step bs s).number ≡ 0
unfolding step heard if_room running done
step_taken bs m s r q a w u =
    rw (r, q, a, w, step, u, heard) (by_bool (has_room (handled m s).now) (λ k. rw (k, if_room) (λ _. refl)) (λ k. rw (k, if_room) (λ e. no_bool (sym e))))

-- whose author is used up gets 12, where nothing else is against it
pub step_used : (bs : List ℕ) (m : Message) (s : State) → running s ≡ true → read bs ≡ some m → allowed s.settings m ≡ true → ahead m s ≡ false
    → used_up m s ≡ true → (step bs s).number ≡ 12
unfolding step heard refused
step_used bs m s r q a w u = rw (r, q, a, w, step, u, heard) refl

-- what was taken is allowed, and handled
pub step_done : (bs : List ℕ) (m : Message) (s : State) → read bs ≡ some m → (step bs s).number ≡ 0
    → (allowed s.settings m ≡ true) × (step bs s ≡ done (handled m s))
unfolding step heard if_room refused stopping done
step_done bs m s q =
    by_bool (running s)
    (λ r.
    by_bool (allowed s.settings m)
    (λ a.
    by_bool (ahead m s) (λ w. rw (r, q, a, w, step) (λ e. absurd (omega arith))) λ w.
    by_bool (used_up m s) (λ u. rw (r, q, a, w, step, u, heard) (λ e. absurd (omega arith))) λ u.
    by_bool (has_room (handled m s).now) (λ k. rw (r, q, a, w, step, u, heard, k, if_room) (λ _. (refl, refl)))
    (λ k. rw (r, q, a, w, step, u, heard, k, if_room) (λ e. absurd (omega arith))))
    (λ a. rw (r, q, a, step) (λ e. absurd (omega arith))))
    (λ r. rw (r, step) (λ e. absurd (omega arith)))

-- what was taken is held
pub step_held : (bs : List ℕ) (m : Message) (s : State) → read bs ≡ some m → length s.blames ≡ suc (last_view s.settings.size)
    → (step bs s).number ≡ 0 → Held s.settings (step bs s).next m
unfolding done
step_held bs m s q l e = let (a, d) = step_done bs m s q e in rw d (handled_held m s a l)

-- ---- what is said to all is held

abbrev pub HeldSaid : Settings → State → Effect → Type 0
HeldSaid g s (to_all m) = Held g s m
HeldSaid g s (to_one i m) = Unit {0}
HeldSaid g s (committed h b) = Unit {0}

said_kept : (g : Settings) {s t : State} → Kept s t → (e : Effect) → HeldSaid g s e → HeldSaid g t e
said_kept g k (to_all m) h = held_kept g k m h
said_kept g k (to_one i m) h = tt
said_kept g k (committed b c) h = tt

own_held : (x : Statement) (s : State) → bit (voters (block x.view x.height x.name) (voted_for x s).tallies) s.settings.own ≡ 1
unfolding voted_for with_tables own_block
own_held x s =
    let t = own_block x (only s.settings.own) in
    voters_joined (moment none s) (block x.view x.height x.name) t s.tallies s.settings.own
    (same_block_lem (block x.view x.height x.name) t refl refl refl) (only_bit s.settings.own)

voting_all_said : (g : Settings) (ys : List Statement) (s : State) → All (In s.statements) ys → All (HeldSaid g (voting_all ys s).now) (voting_all ys s).out
unfolding voting_all saying ◌▸◌ voted_for with_tables ballot
voting_all_said g [] s a = tt
voting_all_said g (y ∷ ys) s a =
    by_bool (below_lock y s) (λ l. rw (voting_low y s l) (voting_all_said g ys s a.1))
    (λ l.
    rw (voting_high y s l)
    (let t = voted_for y s in
    let k = voting_all_kept ys t in
    let n = voted_kept y s in
    (held_kept g k (message y) (stored_held g t y (n.has y a.0)), (held_kept g k (vote y.view y.height y.name s.settings.own) (own_held y s), voting_all_said g ys t (all_map (In s.statements) (In t.statements) (λ x h. n.has x h) ys a.1)))))

pub report_all : (P : Effect → Type 0) (s : State) → ((i : ℕ) (m : Message) → P (to_one i m)) → All P (report s)
unfolding report
report_all P s f = by_bool (eqb (leader s.settings (s.view + 1)) s.settings.own) (λ q. rw (q, All) tt) (λ q. rw (q, All) (f _ _, tt))

pub reports_all : (P : Effect → Type 0) (h : ℕ) (bs : List ℕ) → ((h b : ℕ) → P (committed h b)) → All P (reports h bs)
unfolding reports
reports_all P h [] f = tt
reports_all P h (b ∷ bs) f = (f h b, reports_all P (suc h) bs f)

current_in : (v : ℕ) (xs : List Statement) (x : Statement) → Memᴰ x (keep (λ y. eqb y.view v) xs) → In xs x
current_in v xs x m = mem_in xs x (mem_keep (λ (y : Statement). eqb y.view v) xs x m).0

move_said : {R : Outside} (s t : State) (o : List Effect) → Move R s t o → (length s.blames ≡ suc (last_view s.settings.size)) → (s.view ≤ (last_view s.settings.size)) → All (HeldSaid s.settings t) o
unfolding with_tables with_phase with_blames with_log entering stored voted_for ballot blamed blames_of blame_full current
move_said s t o (joins j m u g c) l w = tt
move_said s t o (stores x g f) l w = tt
move_said s t o (passes x g f c k) l w = tt
move_said s t o (casts x g f c k) l w = (stored_held s.settings t x (rw in_noted (in_last s.statements x)), (own_held x (stored x s), tt))
move_said s t o (clashes x y g f c) l w = (
  stored_held s.settings t y (in_append s.statements x y (mem_in s.statements y (first_mem (conflict x) s.statements y c))),
  (stored_held s.settings t x (in_last s.statements x), tt),
)
move_said s t o (accuses v m a f) l w = tt
move_said s t o (fills v m a f) l w = ((and_2 (is_in v (blamed v m s)) (blame_full v (blamed v m s)) f).1, tt)
move_said s t o (complains f) l w = (tt, tt)
move_said s t o (enters_full e c) l w = all_append (HeldSaid s.settings t) (report s) _ (report_all (HeldSaid s.settings t) s (λ i m. tt)) (c, tt)
move_said s t o (enters_pair p e c f) l w =
    let r = pair_some _ p f in
    all_append (HeldSaid s.settings t) (report s) _ (report_all (HeldSaid s.settings t) s (λ i m. tt))
    (stored_held s.settings t p.0 (current_in (s.view + 1) s.statements p.0 r.1), (stored_held s.settings t p.1 (current_in (s.view + 1) s.statements p.1 r.2), tt))
move_said s t o (enters e c f) l w =
    let a = arrived s in
    let ys = in_order (current a) in
    all_append (HeldSaid s.settings t) (report s) _ (report_all (HeldSaid s.settings t) s (λ i m. tt))
    (voting_all_said s.settings ys a (to_all_lem (In s.statements) ys (λ x m. mem_in s.statements x (mem_order a x m).0)))

pub moves_said : {R : Outside} (s t : State) (o : List Effect) → Moves R s t o → (length s.blames ≡ suc (last_view s.settings.size)) → (t.view ≤ (last_view s.settings.size)) → All (HeldSaid s.settings t) o
moves_said s t o here l w = tt
moves_said s t o (more {t = u} {o = p} {p = q} a b) l w =
    let k = moves_kept a in
    let m = move_kept u t q b in
    let n = m.view in
    let e : last_view u.settings.size ≡ last_view s.settings.size = ap (λ (g : Settings). last_view g.size) (moves_fixed a).0 in
    all_append (HeldSaid s.settings t) p q
    (all_map (HeldSaid s.settings u) (HeldSaid s.settings t) (said_kept s.settings m) p (moves_said s u p a l (omega arith)))
    (subst (λ (g : Settings). All (HeldSaid g t) q) (moves_fixed a).0 (move_said u t q b (k.length ∙ l ∙ ap suc (sym e)) (omega arith)))
