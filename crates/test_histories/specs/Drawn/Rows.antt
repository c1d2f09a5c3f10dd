-- Values to which definitions are applied, written by tools/second_reading.
use Rattle.std.specs.Prelude.{List, codes, ◌∷◌, [], Some, None, true, false}
use Rattle.test_histories.specs.Words.{Pair, pair, proposing, guessing}
use Rattle.ssh_model.specs.Protocol.Wire.Message.{Msg, Msg.UserauthRequest, Method.Publickey, Method.Other, Method.Password}
use Rattle.ssh_model.specs.Protocol.Wire.Message.{Method.NoMethod, Msg.Disconnect, Msg.Ignore, Msg.Unimplemented, Msg.Debug}
use Rattle.ssh_model.specs.Protocol.Wire.Message.{Msg.ServiceRequest, Msg.ServiceAccept, Msg.ExtInfo, Msg.KexInit}
use Rattle.ssh_model.specs.Protocol.Wire.Message.{Msg.NewKeys, Msg.KexEcdhInit, Msg.KexEcdhReply, Msg.UserauthFailure}
use Rattle.ssh_model.specs.Protocol.Wire.Message.{Msg.UserauthSuccess, Msg.UserauthBanner, Msg.UserauthPkOk}
use Rattle.ssh_model.specs.Protocol.Wire.Message.{Msg.GlobalRequest, Msg.RequestSuccess, Msg.RequestFailure, Msg.ChannelOpen}
use Rattle.ssh_model.specs.Protocol.Wire.Message.{Msg.ChannelOpenConfirmation, Msg.ChannelOpenFailure}
use Rattle.ssh_model.specs.Protocol.Wire.Message.{Msg.ChannelWindowAdjust, Msg.ChannelData, Msg.ChannelExtendedData}
use Rattle.ssh_model.specs.Protocol.Wire.Message.{Msg.ChannelEof, Msg.ChannelClose, Msg.ChannelRequest, Msg.ChannelSuccess}
use Rattle.ssh_model.specs.Protocol.Wire.Message.{Msg.ChannelFailure, Msg.Unknown}
use Rattle.ssh_model.specs.declared.refusal.Refusal.{Refusal}

-- KEXINITs of a client and a server
abbrev pub pairs : List Pair
pairs =
    (pair (proposing (codes "k3" ∷ []) (codes "h1" ∷ codes "h2" ∷ codes "h3" ∷ []) (codes "e1" ∷ []) (codes "e2" ∷ codes "e1"
    ∷ []) (codes "m1" ∷ codes "m2" ∷ codes "m3" ∷ []) (codes "m1" ∷ codes "m2" ∷ [])) (guessing (codes "kex-strict-s-v00@openssh.com"
    ∷ codes "ext-info-s" ∷ codes "k2" ∷ []) (codes "h1" ∷ codes "h2" ∷ codes "h3" ∷ []) (codes "e2" ∷ []) (codes "e1" ∷ codes "e2"
    ∷ []) (codes "m1" ∷ []) (codes "m1" ∷ codes "m3" ∷ [])))
    ∷ (pair (guessing (codes "k1" ∷ []) (codes "h3" ∷ codes "h1" ∷ codes "h2" ∷ []) (codes "e2" ∷ []) (codes "e1" ∷ []) (codes "m2"
    ∷ []) (codes "m3" ∷ codes "m2" ∷ [])) (proposing (codes "ext-info-s" ∷ codes "k1" ∷ codes "k2" ∷ codes "k3" ∷ []) (codes "h1"
    ∷ codes "h3" ∷ []) (codes "e2" ∷ []) (codes "e2" ∷ codes "e1" ∷ []) (codes "m1" ∷ codes "m3" ∷ []) (codes "m2" ∷ codes "m1" ∷ codes "m3"
    ∷ [])))
    ∷ (pair (proposing (codes "k1" ∷ codes "k3" ∷ []) (codes "h1" ∷ []) (codes "e2" ∷ []) (codes "e1" ∷ []) (codes "m2" ∷ codes "m1"
    ∷ codes "m3" ∷ []) (codes "m1" ∷ codes "m2" ∷ codes "m3" ∷ [])) (guessing (codes "ext-info-s" ∷ codes "kex-strict-s-v00@openssh.com"
    ∷ codes "k1" ∷ []) (codes "h2" ∷ codes "h1" ∷ []) (codes "e1" ∷ []) (codes "e1" ∷ []) (codes "m3" ∷ []) (codes "m3" ∷ codes "m1"
    ∷ codes "m2" ∷ [])))
    ∷ (pair (guessing (codes "k1" ∷ codes "ext-info-c" ∷ []) (codes "h2" ∷ []) (codes "e1" ∷ []) (codes "e1" ∷ []) (codes "m2" ∷ codes "m3"
    ∷ codes "m1" ∷ []) (codes "m1" ∷ codes "m3" ∷ [])) (proposing (codes "k1" ∷ codes "ext-info-s" ∷ []) (codes "h1" ∷ []) (codes "e2"
    ∷ []) (codes "e2" ∷ codes "e1" ∷ []) (codes "m3" ∷ []) (codes "m3" ∷ [])))
    ∷ (pair (guessing (codes "k3" ∷ codes "k1" ∷ []) (codes "h1" ∷ codes "h3" ∷ []) (codes "e2" ∷ codes "e1" ∷ []) (codes "e1" ∷ codes "e2"
    ∷ []) (codes "m3" ∷ codes "m1" ∷ []) (codes "m1" ∷ codes "m3" ∷ codes "m2" ∷ [])) (guessing (codes "k2" ∷ codes "k3" ∷ codes "k1"
    ∷ codes "ext-info-s" ∷ []) (codes "h1" ∷ codes "h3" ∷ []) (codes "e2" ∷ codes "e1" ∷ []) (codes "e2" ∷ codes "e1" ∷ []) (codes "m1"
    ∷ codes "m3" ∷ []) (codes "m2" ∷ codes "m3" ∷ [])))
    ∷ (pair (guessing (codes "k3" ∷ codes "k1" ∷ codes "k2" ∷ codes "kex-strict-c-v00@openssh.com" ∷ []) (codes "h3" ∷ []) (codes "e1"
    ∷ codes "e2" ∷ []) (codes "e2" ∷ codes "e1" ∷ []) (codes "m2" ∷ codes "m1" ∷ []) (codes "m3" ∷ codes "m2" ∷ [])) (guessing (codes "k3"
    ∷ codes "k1" ∷ []) (codes "h3" ∷ codes "h1" ∷ codes "h2" ∷ []) (codes "e1" ∷ codes "e2" ∷ []) (codes "e2" ∷ codes "e1" ∷ []) (codes "m3"
    ∷ codes "m2" ∷ []) (codes "m1" ∷ codes "m2" ∷ [])))
    ∷ (pair (guessing (codes "ext-info-c" ∷ codes "kex-strict-c-v00@openssh.com" ∷ codes "k2" ∷ []) (codes "h3" ∷ codes "h1" ∷ codes "h2"
    ∷ []) (codes "e1" ∷ []) (codes "e2" ∷ codes "e1" ∷ []) (codes "m1" ∷ codes "m3" ∷ codes "m2" ∷ []) (codes "m2"
    ∷ [])) (proposing (codes "kex-strict-s-v00@openssh.com" ∷ codes "k2" ∷ codes "k1" ∷ codes "ext-info-s" ∷ []) (codes "h2" ∷ codes "h3"
    ∷ []) (codes "e1" ∷ codes "e2" ∷ []) (codes "e2" ∷ []) (codes "m1" ∷ []) (codes "m1" ∷ codes "m2" ∷ codes "m3" ∷ [])))
    ∷ (pair (guessing (codes "kex-strict-c-v00@openssh.com" ∷ codes "k3" ∷ codes "ext-info-c" ∷ codes "k2" ∷ []) (codes "h3" ∷ codes "h2"
    ∷ codes "h1" ∷ []) (codes "e1" ∷ []) (codes "e1" ∷ codes "e2" ∷ []) (codes "m2" ∷ codes "m3" ∷ codes "m1" ∷ []) (codes "m3" ∷ codes "m1"
    ∷ codes "m2" ∷ [])) (proposing (codes "k1" ∷ codes "ext-info-s" ∷ codes "kex-strict-s-v00@openssh.com" ∷ codes "k3" ∷ codes "k2"
    ∷ []) (codes "h3" ∷ codes "h2" ∷ codes "h1" ∷ []) (codes "e1" ∷ codes "e2" ∷ []) (codes "e1" ∷ []) (codes "m1" ∷ []) (codes "m2"
    ∷ codes "m3" ∷ [])))
    ∷ (pair (guessing (codes "k3" ∷ codes "k2" ∷ []) (codes "h3" ∷ []) (codes "e2" ∷ codes "e1" ∷ []) (codes "e2" ∷ codes "e1"
    ∷ []) (codes "m1" ∷ codes "m2" ∷ codes "m3" ∷ []) (codes "m2" ∷ [])) (guessing (codes "k3" ∷ codes "k2"
    ∷ codes "kex-strict-s-v00@openssh.com" ∷ codes "ext-info-s" ∷ []) (codes "h2" ∷ codes "h1" ∷ codes "h3" ∷ []) (codes "e2"
    ∷ []) (codes "e1" ∷ []) (codes "m3" ∷ codes "m1" ∷ codes "m2" ∷ []) (codes "m2" ∷ codes "m3" ∷ codes "m1" ∷ [])))
    ∷ (pair (guessing (codes "k3" ∷ codes "kex-strict-c-v00@openssh.com" ∷ codes "ext-info-c" ∷ []) (codes "h2" ∷ []) (codes "e1"
    ∷ []) (codes "e2" ∷ []) (codes "m3" ∷ codes "m1" ∷ []) (codes "m2" ∷ [])) (guessing (codes "ext-info-s" ∷ codes "k3" ∷ []) (codes "h1"
    ∷ codes "h2" ∷ []) (codes "e1" ∷ []) (codes "e2" ∷ []) (codes "m1" ∷ codes "m2" ∷ codes "m3" ∷ []) (codes "m2" ∷ codes "m3" ∷ [])))
    ∷ (pair (proposing (codes "k2" ∷ codes "kex-strict-c-v00@openssh.com" ∷ []) (codes "h1" ∷ codes "h3" ∷ []) (codes "e1" ∷ codes "e2"
    ∷ []) (codes "e2" ∷ codes "e1" ∷ []) (codes "m1" ∷ codes "m2" ∷ []) (codes "m1" ∷ [])) (guessing (codes "k1" ∷ codes "k3"
    ∷ codes "ext-info-s" ∷ codes "kex-strict-s-v00@openssh.com" ∷ []) (codes "h3" ∷ codes "h1" ∷ []) (codes "e2" ∷ codes "e1"
    ∷ []) (codes "e1" ∷ codes "e2" ∷ []) (codes "m2" ∷ codes "m3" ∷ []) (codes "m3" ∷ codes "m2" ∷ [])))
    ∷ (pair (proposing (codes "k2" ∷ codes "kex-strict-c-v00@openssh.com" ∷ codes "ext-info-c" ∷ []) (codes "h3" ∷ codes "h1"
    ∷ []) (codes "e2" ∷ []) (codes "e1" ∷ []) (codes "m2" ∷ codes "m1" ∷ codes "m3" ∷ []) (codes "m1" ∷ [])) (guessing (codes "k1"
    ∷ codes "ext-info-s" ∷ codes "k2" ∷ []) (codes "h2" ∷ []) (codes "e2" ∷ []) (codes "e1" ∷ codes "e2" ∷ []) (codes "m1" ∷ codes "m2"
    ∷ codes "m3" ∷ []) (codes "m3" ∷ [])))
    ∷ (pair (proposing (codes "ext-info-c" ∷ codes "kex-strict-c-v00@openssh.com" ∷ codes "k2" ∷ codes "k1" ∷ codes "k3" ∷ []) (codes "h3"
    ∷ []) (codes "e2" ∷ codes "e1" ∷ []) (codes "e1" ∷ codes "e2" ∷ []) (codes "m1" ∷ []) (codes "m1" ∷ codes "m2" ∷ codes "m3"
    ∷ [])) (proposing (codes "k3" ∷ codes "ext-info-s" ∷ codes "k2" ∷ codes "k1" ∷ []) (codes "h1" ∷ codes "h2" ∷ []) (codes "e2"
    ∷ []) (codes "e1" ∷ []) (codes "m3" ∷ codes "m1" ∷ []) (codes "m3" ∷ [])))
    ∷ (pair (guessing (codes "k1" ∷ codes "kex-strict-c-v00@openssh.com" ∷ codes "ext-info-c" ∷ []) (codes "h1" ∷ codes "h2" ∷ codes "h3"
    ∷ []) (codes "e1" ∷ []) (codes "e2" ∷ codes "e1" ∷ []) (codes "m2" ∷ codes "m3" ∷ codes "m1" ∷ []) (codes "m2"
    ∷ [])) (guessing (codes "kex-strict-s-v00@openssh.com" ∷ codes "k3" ∷ []) (codes "h1" ∷ codes "h2" ∷ []) (codes "e1" ∷ codes "e2"
    ∷ []) (codes "e1" ∷ codes "e2" ∷ []) (codes "m1" ∷ codes "m2" ∷ codes "m3" ∷ []) (codes "m1" ∷ codes "m3" ∷ [])))
    ∷ (pair (guessing (codes "k3" ∷ codes "k1" ∷ codes "k2" ∷ codes "kex-strict-c-v00@openssh.com" ∷ []) (codes "h1" ∷ codes "h2"
    ∷ []) (codes "e2" ∷ []) (codes "e1" ∷ []) (codes "m3" ∷ []) (codes "m3" ∷ codes "m2" ∷ codes "m1" ∷ [])) (proposing (codes "k2"
    ∷ codes "kex-strict-s-v00@openssh.com" ∷ []) (codes "h1" ∷ codes "h3" ∷ codes "h2" ∷ []) (codes "e2" ∷ []) (codes "e1" ∷ []) (codes "m3"
    ∷ codes "m2" ∷ []) (codes "m3" ∷ codes "m1" ∷ [])))
    ∷ (pair (proposing (codes "kex-strict-c-v00@openssh.com" ∷ codes "k3" ∷ codes "k2" ∷ codes "ext-info-c" ∷ []) (codes "h2" ∷ codes "h3"
    ∷ codes "h1" ∷ []) (codes "e2" ∷ []) (codes "e1" ∷ codes "e2" ∷ []) (codes "m1" ∷ []) (codes "m2" ∷ codes "m3"
    ∷ [])) (guessing (codes "k3" ∷ codes "k1" ∷ codes "k2" ∷ []) (codes "h2" ∷ codes "h1" ∷ []) (codes "e2" ∷ []) (codes "e2" ∷ codes "e1"
    ∷ []) (codes "m3" ∷ []) (codes "m2" ∷ codes "m3" ∷ codes "m1" ∷ [])))
    ∷ (pair (guessing (codes "k2" ∷ []) (codes "h3" ∷ []) (codes "e2" ∷ codes "e1" ∷ []) (codes "e2" ∷ []) (codes "m1" ∷ codes "m2"
    ∷ []) (codes "m3" ∷ codes "m1" ∷ codes "m2" ∷ [])) (guessing (codes "k1" ∷ codes "k2" ∷ codes "k3" ∷ []) (codes "h2" ∷ codes "h1"
    ∷ codes "h3" ∷ []) (codes "e2" ∷ codes "e1" ∷ []) (codes "e2" ∷ []) (codes "m3" ∷ []) (codes "m3" ∷ [])))
    ∷ (pair (proposing (codes "k2" ∷ codes "kex-strict-c-v00@openssh.com" ∷ codes "k1" ∷ codes "ext-info-c" ∷ []) (codes "h3" ∷ codes "h2"
    ∷ codes "h1" ∷ []) (codes "e1" ∷ []) (codes "e1" ∷ codes "e2" ∷ []) (codes "m2" ∷ []) (codes "m3" ∷ [])) (guessing (codes "ext-info-s"
    ∷ codes "k1" ∷ []) (codes "h2" ∷ codes "h3" ∷ []) (codes "e1" ∷ []) (codes "e1" ∷ codes "e2" ∷ []) (codes "m2" ∷ codes "m1"
    ∷ []) (codes "m2" ∷ codes "m1" ∷ codes "m3" ∷ [])))
    ∷ (pair (guessing (codes "k2" ∷ codes "k1" ∷ []) (codes "h2" ∷ codes "h1" ∷ codes "h3" ∷ []) (codes "e2" ∷ []) (codes "e2"
    ∷ []) (codes "m2" ∷ codes "m3" ∷ codes "m1" ∷ []) (codes "m2" ∷ codes "m1" ∷ codes "m3" ∷ [])) (guessing (codes "k2"
    ∷ codes "kex-strict-s-v00@openssh.com" ∷ []) (codes "h3" ∷ codes "h1" ∷ []) (codes "e2" ∷ codes "e1" ∷ []) (codes "e2" ∷ codes "e1"
    ∷ []) (codes "m3" ∷ []) (codes "m1" ∷ [])))
    ∷ (pair (guessing (codes "k2" ∷ codes "k1" ∷ codes "kex-strict-c-v00@openssh.com" ∷ codes "ext-info-c" ∷ codes "k3" ∷ []) (codes "h1"
    ∷ codes "h3" ∷ []) (codes "e2" ∷ []) (codes "e1" ∷ codes "e2" ∷ []) (codes "m2" ∷ codes "m1" ∷ codes "m3" ∷ []) (codes "m3"
    ∷ [])) (guessing (codes "k1" ∷ []) (codes "h1" ∷ []) (codes "e1" ∷ []) (codes "e1" ∷ []) (codes "m2" ∷ []) (codes "m1" ∷ codes "m3"
    ∷ codes "m2" ∷ [])))
    ∷ (pair (guessing (codes "k2" ∷ codes "k1" ∷ codes "k3" ∷ []) (codes "h1" ∷ codes "h2" ∷ []) (codes "e1" ∷ codes "e2" ∷ []) (codes "e1"
    ∷ []) (codes "m2" ∷ []) (codes "m3" ∷ [])) (guessing (codes "kex-strict-s-v00@openssh.com" ∷ codes "ext-info-s" ∷ codes "k1"
    ∷ []) (codes "h3" ∷ codes "h1" ∷ []) (codes "e1" ∷ codes "e2" ∷ []) (codes "e1" ∷ []) (codes "m1" ∷ codes "m3" ∷ codes "m2"
    ∷ []) (codes "m2" ∷ [])))
    ∷ (pair (guessing (codes "ext-info-c" ∷ codes "k1" ∷ []) (codes "h3" ∷ codes "h2" ∷ codes "h1" ∷ []) (codes "e1" ∷ []) (codes "e1"
    ∷ []) (codes "m3" ∷ []) (codes "m3" ∷ codes "m1" ∷ [])) (guessing (codes "k3" ∷ codes "k1" ∷ codes "ext-info-s" ∷ []) (codes "h2"
    ∷ codes "h3" ∷ codes "h1" ∷ []) (codes "e1" ∷ []) (codes "e2" ∷ []) (codes "m2" ∷ codes "m3" ∷ codes "m1" ∷ []) (codes "m1" ∷ codes "m2"
    ∷ [])))
    ∷ (pair (guessing (codes "k1" ∷ codes "ext-info-c" ∷ codes "k3" ∷ codes "kex-strict-c-v00@openssh.com" ∷ []) (codes "h2" ∷ codes "h3"
    ∷ []) (codes "e1" ∷ codes "e2" ∷ []) (codes "e1" ∷ []) (codes "m2" ∷ codes "m1" ∷ codes "m3" ∷ []) (codes "m2" ∷ codes "m1" ∷ codes "m3"
    ∷ [])) (guessing (codes "ext-info-s" ∷ codes "k2" ∷ codes "kex-strict-s-v00@openssh.com" ∷ []) (codes "h2" ∷ codes "h1" ∷ codes "h3"
    ∷ []) (codes "e1" ∷ codes "e2" ∷ []) (codes "e2" ∷ codes "e1" ∷ []) (codes "m1" ∷ []) (codes "m1" ∷ codes "m2" ∷ [])))
    ∷ (pair (guessing (codes "k2" ∷ codes "ext-info-c" ∷ codes "kex-strict-c-v00@openssh.com" ∷ codes "k1" ∷ codes "k3" ∷ []) (codes "h2"
    ∷ codes "h3" ∷ codes "h1" ∷ []) (codes "e2" ∷ []) (codes "e2" ∷ []) (codes "m3" ∷ codes "m2" ∷ codes "m1" ∷ []) (codes "m1" ∷ codes "m3"
    ∷ [])) (proposing (codes "k2" ∷ codes "k3" ∷ codes "kex-strict-s-v00@openssh.com" ∷ []) (codes "h2" ∷ codes "h3" ∷ codes "h1"
    ∷ []) (codes "e1" ∷ codes "e2" ∷ []) (codes "e2" ∷ []) (codes "m1" ∷ codes "m2" ∷ codes "m3" ∷ []) (codes "m3" ∷ [])))
    ∷ (pair (guessing (codes "k3" ∷ codes "k2" ∷ codes "kex-strict-c-v00@openssh.com" ∷ codes "k1" ∷ []) (codes "h2" ∷ []) (codes "e2"
    ∷ []) (codes "e1" ∷ []) (codes "m1" ∷ codes "m2" ∷ codes "m3" ∷ []) (codes "m3" ∷ codes "m2" ∷ codes "m1" ∷ [])) (guessing (codes "k3"
    ∷ codes "kex-strict-s-v00@openssh.com" ∷ codes "k1" ∷ codes "k2" ∷ codes "ext-info-s" ∷ []) (codes "h3" ∷ codes "h2" ∷ codes "h1"
    ∷ []) (codes "e2" ∷ codes "e1" ∷ []) (codes "e2" ∷ codes "e1" ∷ []) (codes "m2" ∷ codes "m3" ∷ []) (codes "m3" ∷ codes "m1" ∷ [])))
    ∷ (pair (proposing (codes "k1" ∷ codes "k2" ∷ []) (codes "h2" ∷ []) (codes "e2" ∷ []) (codes "e2" ∷ []) (codes "m1" ∷ []) (codes "m1"
    ∷ [])) (guessing (codes "kex-strict-s-v00@openssh.com" ∷ codes "k2" ∷ codes "k3" ∷ []) (codes "h3" ∷ codes "h2" ∷ []) (codes "e1"
    ∷ codes "e2" ∷ []) (codes "e1" ∷ []) (codes "m2" ∷ []) (codes "m3" ∷ codes "m2" ∷ [])))
    ∷ (pair (guessing (codes "k3" ∷ codes "k2" ∷ codes "k1" ∷ codes "kex-strict-c-v00@openssh.com" ∷ []) (codes "h2" ∷ codes "h1"
    ∷ []) (codes "e2" ∷ []) (codes "e2" ∷ []) (codes "m2" ∷ codes "m1" ∷ []) (codes "m3" ∷ [])) (guessing (codes "k1"
    ∷ codes "kex-strict-s-v00@openssh.com" ∷ codes "ext-info-s" ∷ codes "k2" ∷ []) (codes "h2" ∷ []) (codes "e1" ∷ codes "e2"
    ∷ []) (codes "e2" ∷ []) (codes "m3" ∷ codes "m1" ∷ codes "m2" ∷ []) (codes "m3" ∷ codes "m1" ∷ [])))
    ∷ (pair (guessing (codes "k1" ∷ codes "kex-strict-c-v00@openssh.com" ∷ codes "k3" ∷ []) (codes "h2" ∷ codes "h3" ∷ codes "h1"
    ∷ []) (codes "e1" ∷ []) (codes "e1" ∷ codes "e2" ∷ []) (codes "m2" ∷ []) (codes "m1" ∷ codes "m3" ∷ codes "m2"
    ∷ [])) (guessing (codes "ext-info-s" ∷ codes "k1" ∷ codes "k3" ∷ codes "k2" ∷ []) (codes "h3" ∷ []) (codes "e2" ∷ codes "e1"
    ∷ []) (codes "e1" ∷ codes "e2" ∷ []) (codes "m3" ∷ []) (codes "m1" ∷ codes "m2" ∷ [])))
    ∷ (pair (proposing (codes "k2" ∷ codes "k3" ∷ []) (codes "h3" ∷ []) (codes "e1" ∷ []) (codes "e1" ∷ codes "e2" ∷ []) (codes "m1"
    ∷ []) (codes "m2" ∷ [])) (proposing (codes "k2" ∷ codes "k3" ∷ codes "ext-info-s" ∷ []) (codes "h1" ∷ codes "h3" ∷ []) (codes "e1"
    ∷ codes "e2" ∷ []) (codes "e1" ∷ []) (codes "m3" ∷ codes "m1" ∷ []) (codes "m1" ∷ codes "m2" ∷ [])))
    ∷ (pair (guessing (codes "kex-strict-c-v00@openssh.com" ∷ codes "k3" ∷ codes "ext-info-c" ∷ []) (codes "h1" ∷ codes "h2" ∷ codes "h3"
    ∷ []) (codes "e2" ∷ []) (codes "e2" ∷ codes "e1" ∷ []) (codes "m3" ∷ codes "m2" ∷ codes "m1" ∷ []) (codes "m3" ∷ codes "m1" ∷ codes "m2"
    ∷ [])) (proposing (codes "k2" ∷ codes "k1" ∷ []) (codes "h1" ∷ codes "h2" ∷ []) (codes "e2" ∷ []) (codes "e1" ∷ codes "e2"
    ∷ []) (codes "m2" ∷ codes "m1" ∷ []) (codes "m3" ∷ codes "m2" ∷ [])))
    ∷ (pair (proposing (codes "k3" ∷ codes "kex-strict-c-v00@openssh.com" ∷ codes "k1" ∷ []) (codes "h3" ∷ codes "h1" ∷ []) (codes "e2"
    ∷ codes "e1" ∷ []) (codes "e1" ∷ codes "e2" ∷ []) (codes "m2" ∷ codes "m1" ∷ codes "m3" ∷ []) (codes "m2"
    ∷ [])) (proposing (codes "ext-info-s" ∷ codes "kex-strict-s-v00@openssh.com" ∷ codes "k3" ∷ []) (codes "h2" ∷ codes "h3" ∷ codes "h1"
    ∷ []) (codes "e1" ∷ []) (codes "e1" ∷ []) (codes "m1" ∷ codes "m2" ∷ codes "m3" ∷ []) (codes "m3" ∷ codes "m1" ∷ [])))
    ∷ (pair (guessing (codes "k2" ∷ codes "kex-strict-c-v00@openssh.com" ∷ codes "ext-info-c" ∷ []) (codes "h3" ∷ codes "h2"
    ∷ []) (codes "e2" ∷ codes "e1" ∷ []) (codes "e2" ∷ []) (codes "m2" ∷ codes "m1" ∷ []) (codes "m2"
    ∷ [])) (guessing (codes "kex-strict-s-v00@openssh.com" ∷ codes "k3" ∷ []) (codes "h2" ∷ codes "h1" ∷ codes "h3" ∷ []) (codes "e2"
    ∷ codes "e1" ∷ []) (codes "e1" ∷ codes "e2" ∷ []) (codes "m2" ∷ codes "m1" ∷ codes "m3" ∷ []) (codes "m3" ∷ codes "m1" ∷ []))) ∷ []

-- requests for authentication
abbrev pub requests : List Msg
requests =
    (UserauthRequest (codes "guest") (codes "ssh-connection") (Publickey (codes "alg") (codes "l") (Some (codes "wrong"))))
    ∷ (UserauthRequest (codes "u") (codes "ssh-userauth") (Publickey (codes "alg") (codes "l") (Some (codes "right"))))
    ∷ (UserauthRequest (codes "u") (codes "ssh-userauth") (Other (codes "hostbased") []))
    ∷ (UserauthRequest (codes "guest") (codes "ssh-userauth") (Publickey (codes "alg") (codes "l") None))
    ∷ (UserauthRequest (codes "u") (codes "ssh-connection") (Password (codes "p") None))
    ∷ (UserauthRequest (codes "u") (codes "ssh-connection") (Publickey (codes "alg") (codes "l") (Some (codes "wrong"))))
    ∷ (UserauthRequest (codes "guest") (codes "ssh-userauth") (Password (codes "q") (Some (codes "n"))))
    ∷ (UserauthRequest (codes "guest") (codes "ssh-userauth") (Other (codes "hostbased") []))
    ∷ (UserauthRequest (codes "guest") (codes "ssh-connection") NoMethod)
    ∷ (UserauthRequest (codes "u") (codes "ssh-userauth") NoMethod)
    ∷ (UserauthRequest (codes "guest") (codes "ssh-userauth") (Publickey (codes "alg") (codes "l") (Some (codes "right"))))
    ∷ (UserauthRequest (codes "u") (codes "ssh-userauth") (Publickey (codes "alg") (codes "k") (Some (codes "right"))))
    ∷ (UserauthRequest (codes "u") (codes "ssh-userauth") (Password (codes "p") (Some (codes "n"))))
    ∷ (UserauthRequest (codes "u") (codes "ssh-connection") (Other (codes "hostbased") []))
    ∷ (UserauthRequest (codes "u") (codes "ssh-connection") NoMethod)
    ∷ (UserauthRequest (codes "u") (codes "ssh-connection") (Publickey (codes "alg") (codes "k") (Some (codes "wrong"))))
    ∷ (UserauthRequest (codes "u") (codes "ssh-userauth") (Publickey (codes "alg") (codes "l") None))
    ∷ (UserauthRequest (codes "u") (codes "ssh-userauth") (Password (codes "q") (Some (codes "n"))))
    ∷ (UserauthRequest (codes "guest") (codes "ssh-userauth") NoMethod)
    ∷ (UserauthRequest (codes "u") (codes "ssh-connection") (Password (codes "p") (Some (codes "n"))))
    ∷ (UserauthRequest (codes "guest") (codes "ssh-userauth") (Publickey (codes "alg") (codes "k") (Some (codes "wrong"))))
    ∷ (UserauthRequest (codes "guest") (codes "ssh-connection") (Publickey (codes "alg") (codes "l") (Some (codes "right"))))
    ∷ (UserauthRequest (codes "guest") (codes "ssh-connection") (Publickey (codes "alg") (codes "l") None))
    ∷ (UserauthRequest (codes "guest") (codes "ssh-connection") (Other (codes "hostbased") []))
    ∷ (UserauthRequest (codes "guest") (codes "ssh-connection") (Password (codes "q") None))
    ∷ (UserauthRequest (codes "guest") (codes "ssh-userauth") (Password (codes "p") None))
    ∷ (UserauthRequest (codes "u") (codes "ssh-connection") (Password (codes "q") (Some (codes "n"))))
    ∷ (UserauthRequest (codes "guest") (codes "ssh-userauth") (Publickey (codes "alg") (codes "k") None))
    ∷ (UserauthRequest (codes "guest") (codes "ssh-connection") (Password (codes "p") None))
    ∷ (UserauthRequest (codes "u") (codes "ssh-userauth") (Password (codes "q") None))
    ∷ (UserauthRequest (codes "guest") (codes "ssh-connection") (Password (codes "p") (Some (codes "n"))))
    ∷ (UserauthRequest (codes "guest") (codes "ssh-userauth") (Publickey (codes "alg") (codes "k") (Some (codes "right")))) ∷ []

-- a message of each kind
abbrev pub messages : List Msg
messages =
    (Disconnect 2 [] [])
    ∷ (Ignore [])
    ∷ (Unimplemented 0)
    ∷ (Debug true [] [])
    ∷ (ServiceRequest [])
    ∷ (ServiceAccept [])
    ∷ (ExtInfo [])
    ∷ (KexInit (proposing [] [] [] [] [] []))
    ∷ (NewKeys)
    ∷ (KexEcdhInit [])
    ∷ (KexEcdhReply [] [] [])
    ∷ (UserauthRequest [] [] NoMethod)
    ∷ (UserauthFailure [] false)
    ∷ (UserauthSuccess)
    ∷ (UserauthBanner [] [])
    ∷ (UserauthPkOk [] [])
    ∷ (GlobalRequest [] true [])
    ∷ (RequestSuccess [])
    ∷ (RequestFailure)
    ∷ (ChannelOpen [] 0 0 0 [])
    ∷ (ChannelOpenConfirmation 0 0 0 0 [])
    ∷ (ChannelOpenFailure 0 1 [] [])
    ∷ (ChannelWindowAdjust 0 1)
    ∷ (ChannelData 0 [])
    ∷ (ChannelExtendedData 0 1 [])
    ∷ (ChannelEof 0)
    ∷ (ChannelClose 0)
    ∷ (ChannelRequest 0 [] true [])
    ∷ (ChannelSuccess 0)
    ∷ (ChannelFailure 0)
    ∷ (Unknown 77) ∷ []

-- all refusals of a peer
abbrev pub refusals : List Refusal
refusals =
    (Refusal.BadLine)
    ∷ (Refusal.BadVersion)
    ∷ (Refusal.BadLength)
    ∷ (Refusal.BadPadding)
    ∷ (Refusal.BadTag)
    ∷ (Refusal.BadMessage)
    ∷ (Refusal.Unexpected)
    ∷ (Refusal.NoCommon)
    ∷ (Refusal.NotStrict)
    ∷ (Refusal.BadPoint)
    ∷ (Refusal.BadHost)
    ∷ (Refusal.NoMaterial)
    ∷ (Refusal.NoService)
    ∷ (Refusal.NumberSpent)
    ∷ (Refusal.TooManyTries)
    ∷ (Refusal.UnknownChannel)
    ∷ (Refusal.WindowOverrun)
    ∷ (Refusal.WindowTooLarge)
    ∷ (Refusal.OwedFull) ∷ []
