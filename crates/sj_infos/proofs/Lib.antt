mod Firsts
mod SameInfos
