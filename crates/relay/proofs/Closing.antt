-- What is known of the closing pass, used or not.
use Rattle.std.proofs.Common.{◌≡◌, [], refl, true, false, Bool, ◌∙◌}
use Rattle.bounded_model.specs.Histories.{own}
use Rattle.bounded_model.specs.Laws.{CloseGives}
use Rattle.bounded_model.specs.Gathers.{put_of, took_of, fold_of, hold_of, shut_of, close_of}
use Rattle.relay.specs.Parts.{DidClose}
use Rattle.relay.proofs.Working.{keep}
use Rattle.relay.specs.Pools.{PoolView}

module _ {P : Type 0} (pool : PoolView P) (pass : P) (new : own (pool.view pass).number (pool.view pass).seen ≡ []) where
  pub DidClose_not : pool.is_pass pass → DidClose pool pass pass false
  DidClose_not is = record {
    of = is;
    number = refl;
    did = record { takes = rw new refl; puts = rw new refl; folds = rw new refl; holds = rw new refl; shuts = rw new refl; closes = λ e. rw new refl };
  }

  pub DidClose_by : (done : P) (b : Bool) → pool.is_pass done → CloseGives pool.shape (pool.view pass) (pool.view done) b → DidClose pool pass done true
  DidClose_by done true is g = record {
    of = is;
    number = g.number;
    did = record {
      takes = keep took_of (pool.view pass) (pool.view done) _ g refl ∙ rw new refl;
      puts = keep put_of (pool.view pass) (pool.view done) _ g refl ∙ rw new refl;
      folds = keep fold_of (pool.view pass) (pool.view done) _ g refl ∙ rw new refl;
      holds = keep hold_of (pool.view pass) (pool.view done) _ g refl ∙ rw new refl;
      shuts = keep shut_of (pool.view pass) (pool.view done) _ g refl ∙ rw new refl;
      closes = λ e. absurd cc;
    };
  }
  DidClose_by done false is g = record {
    of = is;
    number = g.0.number;
    did = record {
      takes = keep took_of (pool.view pass) (pool.view done) _ g.0 refl ∙ rw new refl;
      puts = keep put_of (pool.view pass) (pool.view done) _ g.0 refl ∙ rw new refl;
      folds = keep fold_of (pool.view pass) (pool.view done) _ g.0 refl ∙ rw new refl;
      holds = keep hold_of (pool.view pass) (pool.view done) _ g.0 refl ∙ rw new refl;
      shuts = keep shut_of (pool.view pass) (pool.view done) _ g.0 refl ∙ rw new refl;
      closes = λ e. keep close_of (pool.view pass) (pool.view done) _ g.0 refl ∙ rw new refl;
    };
  }
