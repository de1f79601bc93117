use Rattle.runs.proofs.Effects.{put_did, take_did, close_did, shut_did, look_did, len_did, range_did, fold_did}
use Rattle.runs.proofs.order.each_call_did_once.Goals as goal

pub returns : goal.returns
returns g c = record { put = put_did; take = take_did; close = close_did; shut = shut_did; look = look_did; len = len_did; range = range_did; fold = fold_did }
