-- What a bound says of a type that crosses threads, said of it as an argument of a call.
use Prim.Native.Nat.{ℕ}
use mir.Syntax.{Ty}
use denote.Exit.{no}
use denote.RattleType.{RattleType}
use denote.Param.{param, arg}
use denote.Param.Send.{IsSend, IsSync, param_send, param_sync, arg_send, arg_sync}

pub passed_send : (i : ℕ) (layout : Ty) (R : RattleType) → IsSend R → IsSend (param i (arg layout no R))
passed_send i layout R send = param_send i (arg layout no R) (arg_send layout no R send)

pub passed_sync : (i : ℕ) (layout : Ty) (R : RattleType) → IsSync R → IsSync (param i (arg layout no R))
passed_sync i layout R sync = param_sync i (arg layout no R) (arg_sync layout no R sync)
