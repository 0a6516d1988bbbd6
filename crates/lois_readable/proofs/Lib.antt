mod Joined
mod Parted
mod Readable
mod Strengthened
mod Tuples
