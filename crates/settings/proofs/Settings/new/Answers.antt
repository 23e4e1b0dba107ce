-- `settings::Settings::new` meets its contract, test by test. Assumes nothing.
use Rattle.settings.specs.Made.{made}
use Rattle.settings.proofs.Answers.{as_made}
use Rattle.rules.specs.Lists.{within}
use Rattle.rules.specs.Sizes.{good_settings}
use borrow.Author.Tests.{lt-ltb, le-ltb, le-leb, lt-leb, eq-eqb, ne_eqb}
use Rattle.settings.proofs.Settings.new.Goals as goal

pub returns-then-n-ne1 : goal.returns-then-n-ne1
unfolding made good_settings within
returns-then-n-ne1 c =
    as_made _ _ _ _ (simp (ne_eqb _ _ c.if-n-ne1.true))

pub returns-then-n-lt-LEAST_STATIONS : goal.returns-then-n-lt-LEAST_STATIONS
unfolding made good_settings within
returns-then-n-lt-LEAST_STATIONS c =
    as_made _ _ _ _ (simp (eq-eqb _ _ c.if-n-ne1.false, lt-leb _ _ c.if-n-lt-LEAST_STATIONS.true))

pub returns-then-n-gt-MOST_STATIONS : goal.returns-then-n-gt-MOST_STATIONS
unfolding made good_settings within
returns-then-n-gt-MOST_STATIONS c =
    as_made _ _ _ _ (simp (eq-eqb _ _ c.if-n-ne1.false, le-leb _ _ c.if-n-lt-LEAST_STATIONS.false, lt-leb _ _ c.if-n-gt-MOST_STATIONS.true))

pub returns-then-delay-lt-LEAST_DELAY : goal.returns-then-delay-lt-LEAST_DELAY
unfolding made good_settings within
returns-then-delay-lt-LEAST_DELAY c =
    as_made _ _ _ _ (simp (eq-eqb _ _ c.if-n-ne1.false, le-leb _ _ c.if-n-lt-LEAST_STATIONS.false, le-leb _ _ c.if-n-gt-MOST_STATIONS.false, lt-leb _ _ c.if-delay-lt-LEAST_DELAY.true))

pub returns-then-delay-gt-MOST_DELAY : goal.returns-then-delay-gt-MOST_DELAY
unfolding made good_settings within
returns-then-delay-gt-MOST_DELAY c =
    as_made _ _ _ _ (simp (eq-eqb _ _ c.if-n-ne1.false, le-leb _ _ c.if-n-lt-LEAST_STATIONS.false, le-leb _ _ c.if-n-gt-MOST_STATIONS.false, le-leb _ _ c.if-delay-lt-LEAST_DELAY.false, lt-leb _ _ c.if-delay-gt-MOST_DELAY.true))

pub returns-then-n-own : goal.returns-then-n-own
unfolding made good_settings within
returns-then-n-own c =
    let if1 = c.if-n-ne1 in let if2 = c.if-n-lt-LEAST_STATIONS in let if3 = c.if-n-gt-MOST_STATIONS in
    as_made _ _ _ _ (simp (eq-eqb _ _ if1.false, le-leb _ _ if2.false, le-leb _ _ if3.false, le-leb _ _ c.if-delay-lt-LEAST_DELAY.false, le-leb _ _ c.if-delay-gt-MOST_DELAY.false, le-ltb _ _ c.if-n-own.true))

pub returns : goal.returns
unfolding made good_settings within
returns c =
    let if1 = c.if-n-ne1 in let if2 = c.if-n-lt-LEAST_STATIONS in let if3 = c.if-n-gt-MOST_STATIONS in
    as_made _ _ _ _ (simp (eq-eqb _ _ if1.false, le-leb _ _ if2.false, le-leb _ _ if3.false, le-leb _ _ c.if-delay-lt-LEAST_DELAY.false, le-leb _ _ c.if-delay-gt-MOST_DELAY.false, lt-ltb _ _ c.if-n-own.false))
